use Rattle.std.proofs.Common.{◌+◌, ◌-◌, ◌≤◌, length, take}
use Rattle.std.specs.Io.KnownBytes.{Consumes}
use Rattle.xq_frame.proofs.messages.fill.Given as goal

-- the front of the buffer was taken
abbrev pub invariant-reads : goal.invariant-reads
invariant-reads g l = (l.at ≤ length l.buf) × Consumes (g.R.Read.remaining l.fn.reader.inner) (g.R.Read.remaining l.reader.inner) (take l.at l.buf)
    × (l.tries.left ≤ l.fn.tries.left)
    × (l.reader.interruptions + l.tries.left ≤ l.fn.reader.interruptions + l.fn.tries.left)

-- the bytes that are missing and the interruptions that are still borne
abbrev pub decreases-reads : goal.decreases-reads
decreases-reads g l = (length l.initial.buf - l.at) + l.tries.left
