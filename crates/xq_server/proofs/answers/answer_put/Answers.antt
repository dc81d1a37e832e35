use Rattle.std.proofs.Common.{sym, ◌∙◌, refl, inl, true, false}
use Rattle.std.specs.FinMap.{insert}
use Rattle.xq_atoms.specs.declared.refusals.Fault.TheVariants.{Code as OfCode, Want as OfWant}
use Rattle.xq_server.proofs.Telling.{handed_on, put_wanted, put_told, was_stored, was_replaced}
use Rattle.xq_server.proofs.answers.answer_put.Goals as goal

pub returns-in_err-address-clause-tells : goal.returns-in_err-address-clause-tells
returns-in_err-address-clause-tells g c = λ clean m stood. (
  m,
  rw (handed_on c.from_residual.result (OfCode c.in_err-address.field-0.0) c.from_residual.ensures.1) (inl (c.in_err-address.field-0.0, inl c.in_err-address.ensures, refl)),
  stood,
)

pub returns-in_err-document-clause-tells : goal.returns-in_err-document-clause-tells
returns-in_err-document-clause-tells g c = λ clean m stood. (
  m,
  rw (handed_on c.from_residual-in_err-document.result c.in_err-document.field-0.0 c.from_residual-in_err-document.ensures.1) (
      c.in_err-document.ensures.made clean m stood c.args.address.now c.in_ok-address.ensures.1),
  c.in_err-document.ensures.same clean m stood,
)

pub returns-in_err-put_owned-clause-tells : goal.returns-in_err-put_owned-clause-tells
returns-in_err-put_owned-clause-tells g c = λ clean m stood.
    let early = c.in_err-put_owned.ensures.was_clean clean in
    let made = c.in_ok-document.ensures.made early m stood in (
      m,
      rw (handed_on c.from_residual-in_err-put_owned.result (OfWant c.in_err-put_owned.field-0.0) c.from_residual-in_err-put_owned.ensures.1) (
          put_wanted m c.args.address.now c.args.text.now made.0 c.in_err-put_owned.field-0.0 c.in_ok-address.ensures.1 made.1),
      c.in_err-put_owned.ensures.kept clean m (c.in_ok-document.ensures.same early m stood),
    )

pub returns-in-Stored-clause-tells : goal.returns-in-Stored-clause-tells
returns-in-Stored-clause-tells g c = λ clean m stood.
    let early = c.in_ok-put_owned.ensures.was_clean clean in
    let made = c.in_ok-document.ensures.made early m stood in
    let stands = c.in_ok-document.ensures.same early m stood in (
      insert m c.in_ok-address.address.now c.in_ok-document.document,
      put_told m c.args.address.now c.args.text.now c.in_ok-address.address.now made.0 c.in_ok-document.document false c.in_ok-address.ensures made.1
          made.2 (was_stored _ (sym c.in-Stored.is ∙ c.in_ok-put_owned.ensures.answer clean m stands)),
      c.in_ok-put_owned.ensures.put clean m stands,
    )

pub returns-in-Replaced-clause-tells : goal.returns-in-Replaced-clause-tells
returns-in-Replaced-clause-tells g c = λ clean m stood.
    let early = c.in_ok-put_owned.ensures.was_clean clean in
    let made = c.in_ok-document.ensures.made early m stood in
    let stands = c.in_ok-document.ensures.same early m stood in (
      insert m c.in_ok-address.address.now c.in_ok-document.document,
      put_told m c.args.address.now c.args.text.now c.in_ok-address.address.now made.0 c.in_ok-document.document true c.in_ok-address.ensures made.1
          made.2 (was_replaced _ (sym c.in-Replaced.is ∙ c.in_ok-put_owned.ensures.answer clean m stands)),
      c.in_ok-put_owned.ensures.put clean m stands,
    )
