use Rattle.std.proofs.Common.{◌≡◌, map, take}
use Rattle.xq_trees.specs.Items.{item_view}
use Rattle.xq_operators.proofs.values.copied.Given as goal

abbrev pub invariant-loop-item : goal.invariant-loop-item
invariant-loop-item l = map item_view l.copies.items ≡ map item_view (take l.item-index l.items)
