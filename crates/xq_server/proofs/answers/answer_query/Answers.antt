use Rattle.xq_server.proofs.Telling.{handed_on, query_unread, query_refused, query_told}
use Rattle.xq_server.proofs.answers.answer_query.Goals as goal

pub returns-in_err-held-clause-tells : goal.returns-in_err-held-clause-tells
returns-in_err-held-clause-tells g c = λ clean m stood.
    rw (handed_on c.from_residual.result c.in_err-held.field-0.0 c.from_residual.ensures.1) (
    query_unread m c.args.text.now c.in_err-held.field-0.0 c.in_err-held.ensures)

pub returns-in_err-printed-clause-tells : goal.returns-in_err-printed-clause-tells
returns-in_err-printed-clause-tells g c = λ clean m stood.
    rw (handed_on c.from_residual-in_err-printed.result c.in_err-printed.field-0.0 c.from_residual-in_err-printed.ensures.1) (
    query_refused m c.args.text.now c.in_ok-held.held.plan c.in_err-printed.field-0.0 c.in_ok-held.ensures (c.in_err-printed.ensures.made clean m stood))

pub returns-clause-tells : goal.returns-clause-tells
returns-clause-tells g c = λ clean m stood.
    query_told c.reads_at_most_once.ensures c.reads_back.ensures c.values_are_printable.ensures
    m c.args.text.now c.in_ok-held.held.plan c.in_ok-printed.printed c.in_ok-held.ensures (c.in_ok-printed.ensures.trees clean m stood) (c.in_ok-printed.ensures.made clean m stood)
