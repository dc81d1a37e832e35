use Rattle.std.proofs.Common.{◌≡◌, ◌≤◌, length, drop, map}
use Rattle.xq_trees.specs.Rows.{AreNumbered}
use Rattle.xq_trees.specs.Levels.{flat_row}
use Rattle.xq_trees.specs.private.Sizes.{IsSized}
use Rattle.xq_trees.proofs.levels.set_sizes.Given as goal

abbrev pub invariant-loop-at : goal.invariant-loop-at
invariant-loop-at l =
    (l.at ≤ length l.rows) × IsSized (drop l.at l.rows) × (map flat_row l.rows ≡ map flat_row l.fn.rows) × (AreNumbered 0 l.fn.rows → AreNumbered 0 l.rows) × (length l.rows ≡ length l.fn.rows)

abbrev pub decreases-loop-at : goal.decreases-loop-at
decreases-loop-at l = l.at
