use Rattle.std.proofs.lemmas.Result.{IfOk-weaker}
use Rattle.xq_optimise.proofs.PositionTests.{same_always}
use Rattle.xq_optimise.proofs.positions.with_position_first.Goals as goal

pub returns-in-Some : goal.returns-in-Some
returns-in-Some c =
    IfOk-weaker c.general_test.result _ _
    (λ found h. same_always c.in-Some.test.relation c.in-Some.test.number c.args.plan found c.in-Some.ensures h) c.general_test.ensures
