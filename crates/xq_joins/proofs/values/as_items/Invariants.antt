use Rattle.std.proofs.Common.{◌≡◌, map, take}
use Rattle.xq_trees.specs.Items.{Place, item_views}
use Rattle.xq_joins.proofs.values.as_items.Given as goal

abbrev pub invariant-loop-node : goal.invariant-loop-node
invariant-loop-node l = item_views l.items ≡ map Place (take l.node-index l.nodes)
