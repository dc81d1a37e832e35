use Rattle.std.proofs.lemmas.Result.{IfOk-weaker}
use Rattle.xq_queries.proofs.DirectPlans.{direct_plan}
use Rattle.xq_queries.proofs.reading.planned.Goals as goal

pub returns-clause-same : goal.returns-clause-same
returns-clause-same c =
    IfOk-weaker c.direct.result _ _ (λ p h. direct_plan c.args.query p h) c.direct.ensures.same
