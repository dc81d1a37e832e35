use Rattle.std.proofs.Common.{◌≡◌, map, take}
use Rattle.xq_trees.specs.Items.{item_view}
use Rattle.xq_eval.proofs.pairs.are_same_nodes.Given as goal

abbrev pub invariant-loop-index : goal.invariant-loop-index
invariant-loop-index l = map item_view (take l.index l.first) ≡ map item_view (take l.index l.second)
