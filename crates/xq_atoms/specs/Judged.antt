-- A value or a code, one after another.
use Rattle.std.specs.Prelude.{Result, Ok, Err, Bool, if◌then◌else◌}
use Rattle.xq_atoms.specs.declared.refusals.Code.{Code}

-- a value, or the code by which it is refused
abbrev pub Judged : Type 0 → Type 0
Judged A = Result A Code

-- what comes next, judged with the value; a code stays as it is
infixl 10 ◌>>=◌
abbrev pub ◌>>=◌ : {A B : Type 0} → Judged A → (A → Judged B) → Judged B
Ok x >>= next = next x
Err code >>= next = Err code

-- the value, where the test holds
abbrev pub only_if : {A : Type 0} → Bool → Code → A → Judged A
only_if test code x = if test then Ok x else Err code
