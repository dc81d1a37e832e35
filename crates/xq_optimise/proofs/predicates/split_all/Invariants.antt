use Rattle.std.proofs.Common.{length}
use Rattle.xq_optimise.proofs.Splitting.{PredicatesLeft}
use Rattle.xq_optimise.proofs.predicates.split_all.Given as goal

abbrev pub invariant-loop-next : goal.invariant-loop-next
invariant-loop-next l = PredicatesLeft l.known l.fn.predicates l.left.items l.found

abbrev pub decreases-loop-next : goal.decreases-loop-next
decreases-loop-next l = length l.left.items
