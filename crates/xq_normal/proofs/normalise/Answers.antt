use Rattle.xq_normal.proofs.Shapes.{stays_document_path}
use Rattle.xq_normal.proofs.normalise.Goals as goal

pub returns-clause-document_path : goal.returns-clause-document_path
returns-clause-document_path c =
    stays_document_path c.args.expr.now c.in_ok-expression.field-0 c.in_ok-expression.ensures.shape
