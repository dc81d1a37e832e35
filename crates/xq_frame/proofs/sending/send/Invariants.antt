use Rattle.std.proofs.Common.{◌≡◌, ◌+◌, ◌≤◌, ◌++◌, List, ℕ, length}
use Rattle.std.specs.Io.KnownBytes.{Appends}
use Rattle.xq_frame.proofs.sending.send.Given as goal

-- what is gone from the rest was given
abbrev pub invariant-writes : goal.invariant-writes
invariant-writes g l = ((sent : List ℕ) × ((l.bytes ≡ sent ++ l.rest) × Appends (g.W.Write.contents l.fn.writer.inner) (g.W.Write.contents l.writer.inner) sent))
    × (l.tries.left ≤ l.fn.tries.left)
    × (l.writer.interruptions + l.tries.left ≤ l.fn.writer.interruptions + l.fn.tries.left)

abbrev pub decreases-writes : goal.decreases-writes
decreases-writes g l = length l.rest + l.tries.left
