use Rattle.std.proofs.Common.{◌≡◌, false, map}
use Rattle.xq_trees.specs.Rows.{row_of}
use Rattle.xq_trees.specs.RegionTests.{any_below, common_parent}
use Rattle.xq_trees.proofs.axes.share_parent.Given as goal

abbrev pub invariant-loop-parent : goal.invariant-loop-parent
invariant-loop-parent l = any_below (common_parent (map row_of l.rows) l.node l.other) l.parent ≡ false
