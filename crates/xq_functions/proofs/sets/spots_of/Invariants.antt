use Rattle.std.proofs.Common.{◌≡◌, map, drop}
use Rattle.xq_trees.specs.Items.{item_view}
use Rattle.xq_functions.specs.private.Places as Places
use Rattle.xq_functions.proofs.sets.spots_of.Given as goal

abbrev pub invariant-loop-item : goal.invariant-loop-item
invariant-loop-item l = Places.after l.spots.items l.code (map item_view (drop l.item-index l.items)) ≡ Places.all_spots l.code (map item_view l.items)
