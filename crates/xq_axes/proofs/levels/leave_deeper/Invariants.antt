use Rattle.std.proofs.Common.{◌≡◌, ℕ, ◌&&◌, nat_le, length}
use Rattle.xq_axes.specs.private.Hits.{is_among, IsRising}
use Rattle.xq_axes.proofs.levels.leave_deeper.Given as goal

-- the levels rise, and of those up to this one all are there
abbrev pub invariant-loop-levels : goal.invariant-loop-levels
invariant-loop-levels l = IsRising l.initial.levels.items → record {
  rising : IsRising l.levels.items;
  kept : (m : ℕ) → (is_among l.levels.items m && nat_le m l.level) ≡ (is_among l.initial.levels.items m && nat_le m l.level);
}

abbrev pub decreases-loop-levels : goal.decreases-loop-levels
decreases-loop-levels l = length l.levels.items
