use Rattle.std.proofs.Common.{ap, sym, ◌∙◌, subst}
use Rattle.std.proofs.lemmas.Bool.{false≢true}
use Rattle.xq_atoms.specs.declared.refusals.Code.TheVariants.{FODC0005}
use Rattle.xq_atoms.specs.Judged.{◌>>=◌, only_if}
use Rattle.xq_atoms.specs.Address.{IsAddress}
use Rattle.xq_meaning.specs.Functions.{document_from}
use Rattle.xq_functions.proofs.DocumentLemmas.{is_address-true, is_address-false}
use Rattle.xq_functions.proofs.documents.document.Goals as goal

pub returns-then-not-address_ok : goal.returns-then-not-address_ok
returns-then-not-address_ok c =
    let address = c.args.address.now in
    let bad = is_address-false address (λ good. false≢true (sym c.if-not-address_ok.true ∙ c.address_ok.ensures.1 (subst IsAddress (sym c.as_bytes.ensures.value) good))) in
    sym (ap (λ b. only_if b FODC0005 address >>= (λ good. document_from 0 c.args.addresses.now good)) bad)

pub returns : goal.returns
returns c =
    let address = c.args.address.now in
    let good = is_address-true address (subst IsAddress c.as_bytes.ensures.value (c.address_ok.ensures.0 c.if-not-address_ok.false)) in
    c.place.ensures ∙ sym (ap (λ b. only_if b FODC0005 address >>= (λ good. document_from 0 c.args.addresses.now good)) good)
