use Rattle.std.proofs.Common.{◌≡◌, ◌∙◌, ap, sym, subst, map}
use Rattle.std.specs.List.{AllByRecursion}
use Rattle.xq_functions.specs.Kinds.{argument_of}
use Rattle.xq_functions.specs.declared.kinds.Argument.TheVariants.{Address, Atoms, Nodes}
use Rattle.xq_atoms.specs.Atom.{atomic_of}
use Rattle.xq_atoms.specs.Answers.{GivesUnlessWanting}
use Rattle.xq_functions.specs.Answers.{atomics, items_of, lent_items}
use Rattle.xq_meaning.specs.Functions as Functions
use Rattle.xq_meaning.specs.Items.{atomized}
use Rattle.xq_trees.specs.Items.{item_view}
use Rattle.xq_operators.specs.Reads.{IsAtom}
use Rattle.xq_operators.proofs.CallForms.{one_missing, one_available}
use Rattle.xq_operators.proofs.Giving.{told}
use Rattle.xq_operators.proofs.calls.on_one.Goals as goal

pub returns-in-Items-clause-gives : goal.returns-in-Items-clause-gives
returns-in-Items-clause-gives g c = λ k.
    let old = g.L.TreeSource.forest c.args.source.now in
    let addresses = c.args.addresses.now in
    told (items_of old) (Functions.of_one c.args.function old addresses (items_of old c.args.items)) c.call_on_items.result (c.call_on_items.ensures (sym c.in-Items.ensures) old addresses)

pub returns-in-Nodes-clause-gives : goal.returns-in-Nodes-clause-gives
returns-in-Nodes-clause-gives g c = λ k.
    let old = g.L.TreeSource.forest c.args.source.now in
    let addresses = c.args.addresses.now in
    subst (λ l. GivesUnlessWanting (items_of old) (Functions.of_one c.args.function old addresses (lent_items old l)) c.call_on_nodes.result) c.deref.ensures.value (c.call_on_nodes.ensures.gives k (sym c.in-Nodes.ensures) addresses)

pub returns-in-Missing-clause-gives : goal.returns-in-Missing-clause-gives
returns-in-Missing-clause-gives g c = λ k.
    let old = g.L.TreeSource.forest c.args.source.now in
    one_missing c.args.function old c.args.addresses.now (items_of old c.args.items) (sym c.in-Missing.ensures)

pub returns-in-Atoms-clause-gives : goal.returns-in-Atoms-clause-gives
returns-in-Atoms-clause-gives g c = λ k. c.on_atoms.ensures.gives k (sym c.in-Atoms.ensures) c.args.addresses.now

pub returns-in-Doc-clause-gives : goal.returns-in-Doc-clause-gives
returns-in-Doc-clause-gives g c = λ k.
    let old = g.L.TreeSource.forest c.args.source.now in
    let addresses = c.args.addresses.now in
    let xs = items_of old c.args.items in
    let read : atomics c.deref-in-Doc.result.now ≡ atomized old xs =
    ap (map atomic_of) c.deref-in-Doc.ensures.value ∙ c.in_ok-atoms-in-Address.ensures.value k ∙ ap (λ l. atomized old (lent_items old l)) c.deref-in-Address.ensures.value in
    subst (λ f. GivesUnlessWanting (items_of old) (Functions.of_one f old addresses xs) c.doc.result) (sym c.in-Doc.is)
    (subst (λ as'. GivesUnlessWanting (items_of old) (Functions.doc addresses as') c.doc.result) read (told (items_of old) (Functions.doc addresses (atomics c.deref-in-Doc.result.now)) c.doc.result (c.doc.ensures old)))

pub returns : goal.returns
returns g c =
    let old = g.L.TreeSource.forest c.args.source.now in
    let addresses = c.args.addresses.now in
    let xs = items_of old c.args.items in
    record {
      gives = λ k.
          let read : atomics c.deref-in_default.result.now ≡ atomized old xs =
          ap (map atomic_of) c.deref-in_default.ensures.value ∙ c.in_ok-atoms-in-Address.ensures.value k ∙ ap (λ l. atomized old (lent_items old l)) c.deref-in-Address.ensures.value in
          subst (λ j. GivesUnlessWanting (items_of old) j c.doc_available.result)
          (ap (Functions.doc_available addresses) read ∙ sym (one_available c.args.function old addresses xs (sym c.in-Address.ensures) c.in_default.not-Doc))
          (told (items_of old) (Functions.doc_available addresses (atomics c.deref-in_default.result.now)) c.doc_available.result (c.doc_available.ensures old));
      reads = λ is all. c.atomized.ensures.reads (subst (λ l. AllByRecursion IsAtom (map item_view l)) (sym c.deref-in-Address.ensures.value) all);
      keeps = c.atomized.ensures.keeps;
      was_clean = c.atomized.ensures.was_clean;
    }

pub returns-in-Nodes-clause-reads : goal.returns-in-Nodes-clause-reads
returns-in-Nodes-clause-reads g c = λ is all.
    let other : Address ≡ Nodes = ap argument_of (sym is) ∙ sym c.in-Nodes.ensures in
    absurd (cc)

pub returns-in-Atoms-clause-reads : goal.returns-in-Atoms-clause-reads
returns-in-Atoms-clause-reads g c = λ is all.
    let other : Address ≡ Atoms = ap argument_of (sym is) ∙ sym c.in-Atoms.ensures in
    absurd (cc)

pub returns-in_err-atoms-in-Address-clause-reads : goal.returns-in_err-atoms-in-Address-clause-reads
returns-in_err-atoms-in-Address-clause-reads g c = λ is all.
    c.atomized.ensures.reads (subst (λ l. AllByRecursion IsAtom (map item_view l)) (sym c.deref-in-Address.ensures.value) all)

pub returns-in-Doc-clause-reads : goal.returns-in-Doc-clause-reads
returns-in-Doc-clause-reads g c = λ is all.
    c.atomized.ensures.reads (subst (λ l. AllByRecursion IsAtom (map item_view l)) (sym c.deref-in-Address.ensures.value) all)
