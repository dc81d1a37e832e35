use Rattle.std.proofs.Common.{refl, inl}
use Rattle.std.specs.FinMap.{remove}
use Rattle.xq_atoms.specs.declared.refusals.Fault.TheVariants.{Code as OfCode, Want as OfWant}
use Rattle.xq_server.proofs.Telling.{handed_on, nothing_removed, one_removed, remove_wanted}
use Rattle.xq_server.proofs.answers.answer_remove.Goals as goal

pub returns-in_err-known-clause-tells : goal.returns-in_err-known-clause-tells
returns-in_err-known-clause-tells g c = λ clean m stood. (
  m,
  rw (handed_on c.from_residual.result (OfCode c.in_err-known.field-0.0) c.from_residual.ensures.1) (inl (c.in_err-known.field-0.0, c.in_err-known.ensures, refl)),
  stood,
)

pub returns-in_err-drop_doc-clause-tells : goal.returns-in_err-drop_doc-clause-tells
returns-in_err-drop_doc-clause-tells g c = λ clean m stood. (
  m,
  rw (handed_on c.from_residual-in_err-drop_doc.result (OfWant c.in_err-drop_doc.field-0.0) c.from_residual-in_err-drop_doc.ensures.1) (
    remove_wanted c.args.address.now c.in_err-drop_doc.field-0.0 c.in_ok-known.ensures.1,
    refl,
  ),
  c.in_err-drop_doc.ensures.kept clean m stood,
)

pub returns-then-branch-clause-tells : goal.returns-then-branch-clause-tells
returns-then-branch-clause-tells g c = λ clean m stood. (
  remove m c.in_ok-known.known.now,
  one_removed m c.args.address.now c.in_ok-known.known.now c.in_ok-drop_doc.field-0 c.in_ok-known.ensures
      (c.in_ok-drop_doc.ensures.answer clean m stood) c.if-branch.true,
  c.in_ok-drop_doc.ensures.dropped clean m stood,
)

pub returns-else-branch-clause-tells : goal.returns-else-branch-clause-tells
returns-else-branch-clause-tells g c = λ clean m stood. (
  remove m c.in_ok-known.known.now,
  nothing_removed m c.args.address.now c.in_ok-known.known.now c.in_ok-drop_doc.field-0 c.in_ok-known.ensures
      (c.in_ok-drop_doc.ensures.answer clean m stood) c.if-branch.false,
  c.in_ok-drop_doc.ensures.dropped clean m stood,
)
