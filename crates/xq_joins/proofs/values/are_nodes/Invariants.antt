use Rattle.std.proofs.Common.{map, take}
use Rattle.std.specs.List.{AllByRecursion}
use Rattle.xq_trees.specs.Items.{item_view}
use Rattle.xq_joins.specs.Keys.{IsNode}
use Rattle.xq_joins.proofs.values.are_nodes.Given as goal

abbrev pub invariant-loop-item : goal.invariant-loop-item
invariant-loop-item l = AllByRecursion IsNode (map item_view (take l.item-index l.items))
