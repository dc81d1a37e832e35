use Rattle.xq_plan.proofs.Shapes.{scans_document}
use Rattle.xq_plan.proofs.plan.Goals as goal

pub returns-clause-scans : goal.returns-clause-scans
returns-clause-scans c =
    scans_document c.args.core.now c.in_ok-expression.field-0 c.in_ok-expression.ensures.shape
