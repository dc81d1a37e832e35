use Rattle.std.proofs.Common.{◌≡◌, ◌≤◌, ◌+◌, ℕ, List, get_or, length, vec_capacity, refl, sym, ap, subst, ◌∙◌, arith}
use Rattle.std.specs.Global.{Vec}
use Rattle.std.proofs.lemmas.List.{length_push}
use Rattle.xq_sources.specs.Sources.{tree_at}
use Rattle.xq_axes.specs.private.Hits.{is_among}
use Rattle.xq_axes.specs.private.Named.{is_below_one}
use Rattle.xq_axes.proofs.ManyChildren.{below_told, kept_more, left_more}
use Rattle.xq_axes.proofs.children.told_below.Goals as goal
use Rattle.xq_axes.proofs.children.told_below.Goals.{in-Some-find_near, in_default-find_near}

pub loop-place-preserved : goal.loop-place-preserved
loop-place-preserved g c = record {
  kept = λ k up. (
      let t = tree_at (g.L.TreeSource.forest c.args.source.now) c.args.tree in
      let vs = c.args.contexts.now in
      let ps = c.args.places.now in
      let i = c.loop-place.place-index in
      let place = get_or ps i 0 in
      let so_far = c.loop-place.invariant.kept k up in
      let decided : is_below_one t vs place ≡ is_among vs c.in-Some.parent = below_told t vs c.in-Some.parent place (c.in-Some.ensures k (c.parents-kept.ensures k)) in
      elim c.match-find_near.branch [
        | in-Some-find_near w ↦ ap (λ (f : Vec ℕ). f.items) w.found-is ∙ w.push_reserved.ensures.items ∙ kept_more (is_below_one t vs) ps c.loop-place.found.items i (omega arith) (decided ∙ w.in-Some-find_near.ensures.some up) so_far
        | in_default-find_near w ↦ ap (λ (f : Vec ℕ). f.items) w.found-is ∙ left_more (is_below_one t vs) ps c.loop-place.found.items i (omega arith) (decided ∙ w.in_default-find_near.ensures.none up refl) so_far
      ]);
  room = elim c.match-find_near.branch [
    | in-Some-find_near w ↦ ap vec_capacity w.found-is ∙ w.push_reserved.ensures.capacity ∙ c.loop-place.invariant.room
    | in_default-find_near w ↦ ap vec_capacity w.found-is ∙ c.loop-place.invariant.room
  ];
  fewer = (
      let i = c.loop-place.place-index in
      let held = c.loop-place.found.items in
      let few = c.loop-place.invariant.fewer in
      let more = length_push held (get_or c.args.places.now i 0) in
      elim c.match-find_near.branch [
        | in-Some-find_near w ↦ subst (λ (f : Vec ℕ). length f.items ≤ i + 1) (sym {A = Vec ℕ} w.found-is) (subst (λ (xs : List ℕ). length xs ≤ i + 1) (sym w.push_reserved.ensures.items) (omega (arith, more, few)))
        | in_default-find_near w ↦ subst (λ (f : Vec ℕ). length f.items ≤ i + 1) (sym {A = Vec ℕ} w.found-is) (omega (arith, few))
      ]);
}
