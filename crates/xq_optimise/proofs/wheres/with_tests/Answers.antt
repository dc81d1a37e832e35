use Rattle.std.proofs.lemmas.Result.{IfOk-weaker}
use Rattle.xq_optimise.proofs.Conjuncts.{test_adds}
use Rattle.xq_optimise.proofs.wheres.with_tests.Goals as goal

pub returns-in_default : goal.returns-in_default
returns-in_default c =
    IfOk-weaker c.pushed.result _ _
    (λ after h. test_adds c.args.known.now c.args.test c.args.found after h) c.pushed.ensures
