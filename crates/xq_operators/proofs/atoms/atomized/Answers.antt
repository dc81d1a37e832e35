use Rattle.std.proofs.Common.{◌≡◌, ◌++◌, ◌∷◌, [], ◌∙◌, ap, sym, subst, arith, map, take}
use Rattle.std.proofs.lemmas.List.{map-append, take_all}
use Rattle.xq_atoms.specs.Atom.{atomic_of}
use Rattle.xq_trees.specs.declared.items.Item.{Item as Held}
use Rattle.xq_trees.specs.Items.{item_view}
use Rattle.xq_meaning.specs.Items.{atom_of}
use Rattle.xq_meaning.specs.Readings.{item_at}
use Rattle.xq_operators.specs.Reads.{IsAtom}
use Rattle.xq_operators.proofs.Lists.{taken_next, thrice, all_at}
use Rattle.xq_operators.proofs.atoms.atomized.Goals as goal

pub loop-item-preserved : goal.loop-item-preserved
loop-item-preserved g c =
    let i = c.loop-item.invariant in
    let old = g.L.TreeSource.forest c.args.source.now in
    let items = c.args.items.now in
    let n = c.loop-item.item-index in
    let x = c.item-item.result in
    let atom = c.in_ok-of_item.field-0 in
    let read = λ (h : Held). atom_of old (item_at old (item_view h)) in
    record {
      keeps = c.of_item.ensures.keeps ∙ i.keeps;
      reads = λ all. c.of_item.ensures.reads (all_at IsAtom item_view items n x all (omega arith) c.item-item.is) ∙ i.reads all;
      was_clean = λ k. i.was_clean (c.of_item.ensures.was_clean k);
      value = λ k.
          let one : atomic_of atom ≡ read x = subst (λ f. atomic_of atom ≡ atom_of f (item_at f (item_view x))) i.keeps (c.in_ok-of_item.ensures.value k) in
          ap (map atomic_of) c.in_ok-push.ensures.items ∙ map-append atomic_of c.loop-item.atoms.items (atom ∷ [])
          ∙ ap (λ done. done ++ atomic_of atom ∷ []) (i.value (c.of_item.ensures.was_clean k))
          ∙ ap (λ a. map read (take n items) ++ a ∷ []) one
          ∙ sym (map-append read (take n items) (x ∷ []))
          ∙ ap (map read) (sym (taken_next items n x (omega arith) c.item-item.is));
    }

pub returns-clause-value : goal.returns-clause-value
returns-clause-value g c = λ k.
    let i = c.loop-item.invariant in
    let old = g.L.TreeSource.forest c.args.source.now in
    let items = c.args.items.now in
    i.value k ∙ ap (map (λ (h : Held). atom_of old (item_at old (item_view h)))) (take_all c.loop-item.item-index items (omega arith))
    ∙ sym (thrice (atom_of old) (item_at old) item_view items)

pub returns-in_err-of_item-clause-reads : goal.returns-in_err-of_item-clause-reads
returns-in_err-of_item-clause-reads g c = λ all.
    c.of_item.ensures.reads (all_at IsAtom item_view c.args.items.now c.loop-item.item-index c.item-item.result all (omega arith) c.item-item.is) ∙ c.loop-item.invariant.reads all

pub returns-in_err-push-clause-reads : goal.returns-in_err-push-clause-reads
returns-in_err-push-clause-reads g c = λ all.
    c.of_item.ensures.reads (all_at IsAtom item_view c.args.items.now c.loop-item.item-index c.item-item.result all (omega arith) c.item-item.is) ∙ c.loop-item.invariant.reads all
