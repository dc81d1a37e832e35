use Rattle.std.proofs.Common.{◌+◌, ◌≤◌}
use Rattle.std.specs.Io.KnownBytes.{Keeps}
use Rattle.xq_frame.proofs.sending.flush.Given as goal

abbrev pub invariant-flushes : goal.invariant-flushes
invariant-flushes g l = Keeps (g.W.Write.contents l.fn.writer.inner) (g.W.Write.contents l.writer.inner) × (l.tries.left ≤ l.fn.tries.left)
    × (l.writer.interruptions + l.tries.left ≤ l.fn.writer.interruptions + l.fn.tries.left)

abbrev pub decreases-flushes : goal.decreases-flushes
decreases-flushes g l = l.tries.left
