-- What is taken from a reader for a buffer.
use Rattle.std.specs.Prelude.{ℕ, ◌<◌, List, length, take, Option}
use Rattle.std.specs.Io.KnownBytes.{Consumes, IsAtEnd}
use Rattle.xq_frame.specs.declared.messages.Filled.{Filled}
use Rattle.xq_frame.specs.declared.messages.Filled.TheVariants.{Full, Ended, Fault as Broken}

-- the buffer, or a front of it, was taken
abbrev pub Fills : Option (List ℕ) → Option (List ℕ) → List ℕ → Filled → Type 0
Fills old new buf Full = Consumes old new buf
Fills old new buf (Ended n) = Consumes old new (take n buf) × (n < length buf) × IsAtEnd new
Fills old new buf (Broken n) = Consumes old new (take n buf) × (n < length buf)

-- the last read of a buffer that found a fault was not made again
abbrev pub unfilled : Filled → ℕ
unfilled (Broken n) = 1
unfilled _ = 0
