use Rattle.std.proofs.lemmas.Result.{IfOk-weaker}
use Rattle.xq_queries.proofs.Optimised.{optimised_plan, optimised_scans}
use Rattle.xq_queries.proofs.direct.planned.Goals as goal

pub returns-clause-same : goal.returns-clause-same
returns-clause-same c =
    IfOk-weaker c.optimise.result _ _
    (λ p h. optimised_plan c.args.core c.in_ok-made.made p c.in_ok-made.ensures.same h) c.optimise.ensures.same

pub returns-clause-scans : goal.returns-clause-scans
returns-clause-scans c =
    IfOk-weaker c.optimise.result _ _
    (λ p h. optimised_scans c.args.core c.in_ok-made.made p c.in_ok-made.ensures.scans h) c.optimise.ensures.scans
