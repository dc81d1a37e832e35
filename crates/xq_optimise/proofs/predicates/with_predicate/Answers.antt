use Rattle.std.proofs.lemmas.Result.{IfOk-weaker}
use Rattle.xq_optimise.proofs.Splitting.{one_stays}
use Rattle.xq_optimise.proofs.predicates.with_predicate.Goals as goal

pub returns-in_default : goal.returns-in_default
returns-in_default c =
    IfOk-weaker c.pushed.result _ _
    (λ after h. one_stays c.args.known.now c.args.next c.args.found after h) c.pushed.ensures
