use Rattle.std.proofs.Common.{◌≡◌, sym, ap, ◌∙◌, ◌++◌, ◌∷◌, [], List, ℕ, ◌≢◌}
use Rattle.std.proofs.lemmas.Result.{err_from_is_err_and}
use Rattle.sqlite_value.specs.Order.{Row, column}
use Rattle.sqlite_value.specs.declared.value.Value.TheVariants.{Text}
use Rattle.xq_tables.specs.declared.faults.OpenFault.TheVariants.{NotAStore}
use Rattle.xq_tables.specs.private.Adopt.{AreNoDocuments, HasJudged, is_under}
use Rattle.xq_tables.proofs.AdoptReads.{each_err}
use Rattle.xq_tables.proofs.Judging.{stray_row, unreadable_row, refuted_before, same_answered, next_answered}
use Rattle.xq_tables.proofs.judgements.Findings.with_row.Goals as goal

pub returns-in_err-node-clause-err : goal.returns-in_err-node-clause-err
returns-in_err-node-clause-err c =
    let p = err_from_is_err_and c.from_residual.result c.from_residual.ensures.1 in
    rw (p.1, p.2) (λ none given it. unreadable_row given c.args.row.now (c.in_err-node.ensures.err none))

pub returns-then-is_under-clause-ok : goal.returns-then-is_under-clause-ok
returns-then-is_under-clause-ok c =
    let own = sym c.if-is_under.true ∙ c.is_under.ensures ∙ ap (λ a. is_under a c.args.row.now) c.deref.ensures.value in
    same_answered c.args.self c.args.row.now c.in_ok-node.node c.in_ok-node.ensures.ok c.with_node.result own c.with_node.ensures.documents c.with_node.ensures.address c.with_node.ensures.nodes

pub returns-in_err-closed-clause-err : goal.returns-in_err-closed-clause-err
returns-in_err-closed-clause-err c =
    let other = sym c.if-is_under.false ∙ c.is_under.ensures ∙ ap (λ a. is_under a c.args.row.now) c.deref.ensures.value in
    let p = err_from_is_err_and c.from_residual-in_err-closed.result c.from_residual-in_err-closed.ensures.1 in
    rw (p.1, p.2) (λ none given it. refuted_before given c.args.row.now c.args.self it other (c.in_err-closed.ensures.err none))

pub returns-clause-ok : goal.returns-clause-ok
returns-clause-ok c =
    let other = sym c.if-is_under.false ∙ c.is_under.ensures ∙ ap (λ a. is_under a c.args.row.now) c.deref.ensures.value in
    next_answered c.args.self c.args.row.now c.in_ok-node.node c.in_ok-node.ensures.ok c.in_ok-closed.closed.documents.items c.begun.result other c.in_ok-closed.ensures.ok c.begun.ensures.documents c.begun.ensures.address c.begun.ensures.nodes

pub returns-clause-err : goal.returns-clause-err
returns-clause-err c =
    each_err (λ fault. fault ≡ NotAStore → (a : List ℕ) → column c.args.row.now 6 ≢ Text a) (λ fault. fault ≡ NotAStore → (given : List Row) → HasJudged given c.args.self → AreNoDocuments (given ++ c.args.row.now ∷ [])) c.begun.result
    (λ fault stray none given it. stray_row given c.args.row.now (stray none)) c.begun.ensures.err
