use Rattle.std.proofs.Common.{◌≡◌, map, take}
use Rattle.xq_trees.specs.Items.{item_views}
use Rattle.xq_functions.specs.private.Places as Places
use Rattle.xq_functions.proofs.sets.nodes_at.Given as goal

abbrev pub invariant-loop-spot : goal.invariant-loop-spot
invariant-loop-spot l = item_views l.items ≡ map Places.view (take l.spot-index l.spots)
