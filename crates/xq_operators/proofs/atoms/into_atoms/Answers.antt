use Rattle.std.proofs.Common.{◌≡◌, ◌++◌, ◌∷◌, [], ◌∙◌, ap, sym, subst, map}
use Rattle.std.proofs.lemmas.List.{map-id, map_push}
use Rattle.std.proofs.lemmas.Iterator.Adapters.{YieldsList-from_vec}
use Rattle.std.proofs.lemmas.Iterator.Consumers.{YieldsList-end}
use Rattle.xq_atoms.specs.Atom.{atomic_of}
use Rattle.xq_trees.specs.declared.items.Item.{Item as Held}
use Rattle.xq_trees.specs.Items.{item_view}
use Rattle.xq_meaning.specs.Items.{atom_of}
use Rattle.xq_meaning.specs.Readings.{item_at}
use Rattle.xq_operators.proofs.Lists.{thrice}
use Rattle.xq_operators.proofs.atoms.into_atoms.Goals as goal

pub loop-item-preserved : goal.loop-item-preserved
loop-item-preserved g c =
    let i = c.loop-item.invariant in
    let old = g.L.TreeSource.forest c.args.source.now in
    let x = c.in-Some.item in
    let atom = c.in_ok-into_atom.field-0 in
    let read = λ (h : Held). atom_of old (item_at old (item_view h)) in
    record {
      keeps = c.into_atom.ensures.keeps ∙ i.keeps;
      was_clean = λ k. i.was_clean (c.into_atom.ensures.was_clean k);
      value = λ k.
          let one : atomic_of atom ≡ read x = subst (λ f. atomic_of atom ≡ atom_of f (item_at f (item_view x))) i.keeps (c.in_ok-into_atom.ensures.value k) in
          ap (map atomic_of) c.in_ok-push.ensures.items ∙ map_push atomic_of c.loop-item.atoms.items atom
          ∙ ap (λ done. done ++ atomic_of atom ∷ []) (i.value (c.into_atom.ensures.was_clean k))
          ∙ ap (λ a. map read c.loop-item.yielded ++ a ∷ []) one
          ∙ sym (map_push read c.loop-item.yielded x);
    }

pub returns-clause-value : goal.returns-clause-value
returns-clause-value g c = λ k.
    let i = c.loop-item.invariant in
    let old = g.L.TreeSource.forest c.args.source.now in
    let items = c.args.items.items in
    let ended = YieldsList-end (YieldsList-from_vec items (cc) (cc)) c.loop-item.yielded c.loop-item.item-iterator c.loop-item.yielded_by c.next.result c.next.new.self c.in-None.is c.next.ensures.steps in
    i.value k ∙ ap (map (λ (h : Held). atom_of old (item_at old (item_view h)))) (sym (map-id c.loop-item.yielded) ∙ ended.0)
    ∙ sym (thrice (atom_of old) (item_at old) item_view items)
