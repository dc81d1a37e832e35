use Rattle.std.proofs.Common.{◌≡◌, filter, take}
use Rattle.xq_functions.specs.private.Places as Places
use Rattle.xq_trees.specs.Rising.{AreRising}
use Rattle.xq_functions.proofs.sets.taken.Given as goal

abbrev pub invariant-loop-spot : goal.invariant-loop-spot
invariant-loop-spot l = AreRising l.others → l.taken.items ≡ filter (Places.takes l.operator l.others) (take l.spot-index l.spots)
