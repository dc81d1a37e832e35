use Rattle.std.proofs.Common.{length}
use Rattle.xq_optimise.proofs.Splitting.{ConjunctsLeft}
use Rattle.xq_optimise.proofs.predicates.parted.Given as goal

abbrev pub invariant-loop-part : goal.invariant-loop-part
invariant-loop-part l = ConjunctsLeft l.known l.fn.parts l.left.items l.found.first l.found.position l.found.tests

abbrev pub decreases-loop-part : goal.decreases-loop-part
decreases-loop-part l = length l.left.items
