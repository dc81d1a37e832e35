use Rattle.std.proofs.Common.{◌≡◌, map, take}
use Rattle.xq_trees.specs.Items.{item_view}
use Rattle.xq_operators.specs.Nodes.{nodes_among}
use Rattle.xq_joins.proofs.values.nodes_among.Given as goal

abbrev pub invariant-loop-item : goal.invariant-loop-item
invariant-loop-item l = l.nodes.items ≡ nodes_among (map item_view (take l.item-index l.items))
