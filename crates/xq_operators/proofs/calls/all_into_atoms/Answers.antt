use Rattle.std.proofs.Common.{◌≡◌, ◌++◌, ◌∷◌, [], ◌∙◌, ap, sym, subst, map}
use Rattle.std.proofs.lemmas.List.{map-id, map_push}
use Rattle.std.proofs.lemmas.Iterator.Adapters.{YieldsList-from_vec}
use Rattle.std.proofs.lemmas.Iterator.Consumers.{YieldsList-end}
use Rattle.xq_trees.specs.Items.{item_views}
use Rattle.xq_tuples.specs.Keys.{atomics_of}
use Rattle.xq_meaning.specs.Items.{atomized}
use Rattle.xq_meaning.specs.Readings.{items_at}
use Rattle.xq_operators.specs.Views.{tuple_at}
use Rattle.xq_operators.proofs.calls.all_into_atoms.Goals as goal

pub loop-list-preserved : goal.loop-list-preserved
loop-list-preserved g c =
    let i = c.loop-list.invariant in
    let old = g.L.TreeSource.forest c.args.source.now in
    let x = c.in-Some.list in
    let atoms = c.in_ok-into_atoms.field-0 in
    let before = map item_views c.loop-list.yielded in
    let done = map (atomized old) (tuple_at old before) in
    record {
      keeps = c.into_atoms.ensures.keeps ∙ i.keeps;
      was_clean = λ k. i.was_clean (c.into_atoms.ensures.was_clean k);
      value = λ k.
          let one : atomics_of atoms ≡ atomized old (items_at old (item_views x)) =
          subst (λ f. atomics_of atoms ≡ atomized f (items_at f (item_views x))) i.keeps (c.in_ok-into_atoms.ensures.value k) in
          ap (map atomics_of) c.in_ok-push.ensures.items ∙ map_push atomics_of c.loop-list.atoms.items atoms
          ∙ ap (λ l. l ++ atomics_of atoms ∷ []) (i.value (c.into_atoms.ensures.was_clean k))
          ∙ ap (λ a. done ++ a ∷ []) one
          ∙ sym (ap (λ l. map (atomized old) (tuple_at old l)) (map_push item_views c.loop-list.yielded x)
          ∙ ap (map (atomized old)) (map_push (items_at old) before (item_views x))
          ∙ map_push (atomized old) (tuple_at old before) (items_at old (item_views x)));
    }

pub returns-clause-value : goal.returns-clause-value
returns-clause-value g c = λ k.
    let i = c.loop-list.invariant in
    let old = g.L.TreeSource.forest c.args.source.now in
    let lists = c.args.lists.items in
    let ended = YieldsList-end (YieldsList-from_vec lists (cc) (cc)) c.loop-list.yielded c.loop-list.list-iterator c.loop-list.yielded_by c.next.result c.next.new.self c.in-None.is c.next.ensures.steps in
    i.value k ∙ ap (λ l. map (atomized old) (tuple_at old (map item_views l))) (sym (map-id c.loop-list.yielded) ∙ ended.0)
