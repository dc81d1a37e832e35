use Rattle.std.proofs.Common.{map, drop}
use Rattle.xq_trees.specs.Items.{item_view}
use Rattle.xq_queries.specs.private.Ranges.{AreViewsInRange}
use Rattle.xq_queries.proofs.asking.are_in_range.Given as goal

-- where what is left is in range, all is
abbrev pub invariant-loop-item : goal.invariant-loop-item
invariant-loop-item l = AreViewsInRange (map item_view (drop l.item-index l.items)) → AreViewsInRange (map item_view l.items)
