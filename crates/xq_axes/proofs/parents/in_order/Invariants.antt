use Rattle.std.proofs.Common.{◌≡◌, ◌≤◌, ℕ, length, take}
use Rattle.xq_axes.specs.private.Hits.{is_among, IsRising}
use Rattle.xq_axes.proofs.parents.in_order.Given as goal

-- the places so far, in order
abbrev pub invariant-loop-place : goal.invariant-loop-place
invariant-loop-place l = record {
  rising : IsRising l.ordered.items;
  among : (n : ℕ) → is_among l.ordered.items n ≡ is_among (take l.place-index l.places) n;
  fewer : length l.ordered.items ≤ l.place-index;
}
