use Rattle.std.proofs.Common.{length}
use Rattle.xq_optimise.proofs.Rising.{TakenOff}
use Rattle.xq_optimise.proofs.order.risen.Given as goal

abbrev pub invariant-loop-next : goal.invariant-loop-next
invariant-loop-next l = TakenOff l.known l.plain l.fn.left.items l.left.items l.passed.items

abbrev pub decreases-loop-next : goal.decreases-loop-next
decreases-loop-next l = length l.left.items
