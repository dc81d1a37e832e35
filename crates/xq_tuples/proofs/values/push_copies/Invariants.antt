use Rattle.std.proofs.Common.{◌≡◌, ◌++◌, map, take}
use Rattle.xq_trees.specs.Items.{item_view, item_views}
use Rattle.xq_tuples.proofs.values.push_copies.Given as goal

abbrev pub invariant-loop-item : goal.invariant-loop-item
invariant-loop-item l = item_views l.copies ≡ item_views l.fn.copies ++ map item_view (take l.item-index l.items)
