use Rattle.std.proofs.Common.{length}
use Rattle.xq_optimise.proofs.Loops.{ClausesLeft}
use Rattle.xq_optimise.proofs.unused_lets.followed.Given as goal

abbrev pub invariant-loop-next : goal.invariant-loop-next
invariant-loop-next l = ClausesLeft l.fn.list l.left.items l.outer l.fn.known.items l.known.items l.found

abbrev pub decreases-loop-next : goal.decreases-loop-next
decreases-loop-next l = length l.left.items
