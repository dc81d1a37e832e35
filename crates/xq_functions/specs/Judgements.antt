-- What a function answers that takes no memory.
use Rattle.std.specs.Prelude.{Result, Ok, Err}
use Rattle.xq_atoms.specs.declared.refusals.Code.{Code}
use Rattle.xq_atoms.specs.Judged.{Judged}

-- a value of the program, seen as the definitions see it, or a code
abbrev pub judged_as : {A B : Type 0} → (A → B) → Result A Code → Judged B
judged_as view (Ok a) = Ok (view a)
judged_as view (Err code) = Err code
