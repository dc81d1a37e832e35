use Rattle.std.proofs.Common.{◌≡◌, ◌++◌, reverse, length}
use Rattle.xq_optimise.proofs.wheres.turned.Given as goal

abbrev pub invariant-loop-part : goal.invariant-loop-part
invariant-loop-part l = l.found ++ reverse l.left.items ≡ reverse l.fn.list.items

abbrev pub decreases-loop-part : goal.decreases-loop-part
decreases-loop-part l = length l.left.items
