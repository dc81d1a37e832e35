use Rattle.std.proofs.Common.{take}
use Rattle.xq_optimise.proofs.WrittenOut.{Counted}
use Rattle.xq_optimise.proofs.written.value_of.Given as goal

abbrev pub invariant-loop-clause : goal.invariant-loop-clause
invariant-loop-clause l = Counted l.known (take l.clause-index l.passed) l.wanted l.before
