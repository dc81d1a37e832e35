-- What the program's booleans stand for.
use Rattle.std.specs.Prelude.{Bool, Result, Ok, Err}
use Rattle.xq_atoms.specs.declared.refusals.Code.{Code}
use Rattle.xq_atoms.specs.Judged.{Judged}
use Rattle.xq_atoms.specs.Atom.{Atomic, Boolean}

abbrev pub boolean_judged : Result Bool Code → Judged Atomic
boolean_judged (Ok b) = Ok (Boolean b)
boolean_judged (Err code) = Err code
