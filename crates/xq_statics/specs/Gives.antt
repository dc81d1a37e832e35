-- When an answer is that of a judgement: no fault, this fault, or want of memory.
use Rattle.std.specs.Prelude.{◌≡◌, Option, Some, None, Result, Ok, Err}
use Rattle.xq_atoms.specs.declared.refusals.Code.{Code}
use Rattle.xq_atoms.specs.declared.refusals.Fault.{Fault}
use Rattle.xq_atoms.specs.declared.refusals.Fault.TheVariants.{Code as OfCode, Want as OfWant}
use Rattle.xq_atoms.specs.declared.refusals.Want.TheVariants.{Memory, Store}

-- passed where there is no fault, refused with the fault that there is; a growth may be refused at
-- any time
abbrev pub Judges : Result (Unit {0}) Fault → Option Code → Type 0
Judges (Ok passed) fault = fault ≡ None
Judges (Err (OfCode code)) fault = fault ≡ Some code
Judges (Err (OfWant Memory)) fault = Unit {0}
Judges (Err (OfWant Store)) fault = ⊥
