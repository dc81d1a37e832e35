use Rattle.std.proofs.Common.{take}
use Rattle.xq_optimise.proofs.NestedReturns.{Steadily}
use Rattle.xq_optimise.proofs.nested.are_steady.Given as goal

abbrev pub invariant-loop-clause : goal.invariant-loop-clause
invariant-loop-clause l = Steadily l.outer l.known l.seen.items (take l.clause-index l.list)
