use Rattle.xq_server.proofs.Telling.{handed_on, put_unread, put_refused}
use Rattle.xq_server.proofs.answers.document_of.Goals as goal

pub returns-in_err-held-clause-made : goal.returns-in_err-held-clause-made
returns-in_err-held-clause-made g c = λ clean m stood.
    rw (handed_on c.from_residual.result c.in_err-held.field-0.0 c.from_residual.ensures.1) (
    λ address good. put_unread m address c.args.text.now c.in_err-held.field-0.0 good c.in_err-held.ensures)

pub returns-in_err-document-clause-made : goal.returns-in_err-document-clause-made
returns-in_err-document-clause-made g c = λ clean m stood.
    rw (handed_on c.from_residual-in_err-document.result c.in_err-document.field-0.0 c.from_residual-in_err-document.ensures.1) (
    λ address good. put_refused m address c.args.text.now c.in_ok-held.held.plan c.in_err-document.field-0.0 good c.in_ok-held.ensures
    (c.in_err-document.ensures.made clean m stood))

pub returns-clause-made : goal.returns-clause-made
returns-clause-made g c = λ clean m stood.
    (c.in_ok-held.held.plan, c.in_ok-held.ensures, c.in_ok-document.ensures.made clean m stood)
