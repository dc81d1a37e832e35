use Rattle.std.proofs.Common.{◌≡◌, length, map, take, vec_capacity}
use Rattle.xq_trees.specs.Items.{Place as NodeAt, item_views}
use Rattle.xq_axes.specs.Many.{spot}
use Rattle.xq_axes.proofs.steps.as_items.Given as goal

-- the nodes at the places so far are there, and there is room for all
abbrev pub invariant-loop-place : goal.invariant-loop-place
invariant-loop-place l = record {
  nodes : item_views l.items ≡ map (λ p. NodeAt (spot l.tree p)) (take l.place-index l.places);
  many : length l.items.items ≡ l.place-index;
  room : vec_capacity l.items ≡ length l.places;
}
