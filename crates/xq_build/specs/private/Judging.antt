-- What judges a text.
use Rattle.std.specs.Prelude.{◌≡◌, List, ℕ, Result, Ok, Err}
use Rattle.xq_atoms.specs.Judged.{Judged}
use Rattle.xq_atoms.specs.declared.refusals.Code.{Code}

-- the text is let through, or the code is given
abbrev pub JudgesText : Judged (List ℕ) → List ℕ → Result (Unit {0}) Code → Type 0
JudgesText meaning text (Ok done) = meaning ≡ Ok text
JudgesText meaning text (Err code) = meaning ≡ Err code
