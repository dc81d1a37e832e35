use Rattle.std.proofs.Common.{◌≡◌, ◌++◌, reverse, length}
use Rattle.xq_optimise.proofs.lists.reversed.Given as goal

abbrev pub invariant-loop-item : goal.invariant-loop-item
invariant-loop-item g l = l.left ++ reverse l.found.items ≡ l.fn.list

abbrev pub decreases-loop-item : goal.decreases-loop-item
decreases-loop-item g l = length l.left
