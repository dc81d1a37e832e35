use Rattle.std.proofs.Common.{◌≡◌, ◌<◌, ℕ, Bool}
use Rattle.xq_axes.specs.private.Hits.{below_where}
use Rattle.xq_axes.specs.private.Counted.{AreAll}
use Rattle.xq_axes.proofs.attributes.add_places.Given as goal

-- the places before this one were added
abbrev pub invariant-loop-place : goal.invariant-loop-place
invariant-loop-place l = record {
  none : l.high < l.low → l.place ≡ l.low;
  added :
      (wanted : ℕ → Bool) → AreAll wanted l.low l.high
      → l.initial.places.items ≡ below_where wanted l.low → l.places.items ≡ below_where wanted l.place;
}
