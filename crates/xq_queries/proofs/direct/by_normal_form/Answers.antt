use Rattle.std.proofs.lemmas.Result.{IfOk-weaker}
use Rattle.xq_queries.proofs.DirectPlans.{normal_direct}
use Rattle.xq_queries.proofs.Steps.{scans_of}
use Rattle.xq_queries.proofs.direct.by_normal_form.Goals as goal

pub returns-clause-same : goal.returns-clause-same
returns-clause-same c =
    IfOk-weaker c.planned.result _ _ (λ p h. normal_direct c.args.expr.now c.in_ok-core.core p
    c.in_ok-core.ensures.same h) c.planned.ensures.same

pub returns-clause-scans : goal.returns-clause-scans
returns-clause-scans c =
    IfOk-weaker c.planned.result _ _ (λ p h. scans_of c.args.expr.now c.in_ok-core.core p
    c.in_ok-core.ensures.document_path h) c.planned.ensures.scans
