use Rattle.std.proofs.Common.{◌≡◌, ◌≤◌, ◌<◌, ◌^◌, length, drop, map}
use Rattle.xq_trees.specs.Levels.{flat, AreSized}
use Rattle.xq_packed.proofs.sizes.set_sizes.Given as goal

abbrev pub invariant-loop-at : goal.invariant-loop-at
invariant-loop-at l = record {
  within : l.at ≤ length l.rows.rows;
  sized : AreSized (drop l.at l.rows.rows);
  same : map flat l.rows.rows ≡ map flat l.fn.rows.rows;
  room : length l.rows.rows < 2 ^ 32;
}

abbrev pub decreases-loop-at : goal.decreases-loop-at
decreases-loop-at l = l.at
