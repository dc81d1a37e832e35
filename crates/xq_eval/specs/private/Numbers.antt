-- What is told of a value by one number.
use Rattle.std.specs.Prelude.{◌≡◌, ◌++◌, List, Bool, true, false, Option, Some, None, Result, Ok, Err}
use Rattle.xq_atoms.specs.declared.atoms.Atom.{Atom}
use Rattle.xq_atoms.specs.declared.refusals.Code.{Code}
use Rattle.xq_atoms.specs.declared.refusals.Fault.{Fault}
use Rattle.xq_atoms.specs.declared.refusals.Fault.TheVariants.{Code as OfCode, Want as OfWant}
use Rattle.xq_atoms.specs.Atom.{Atomic, atomic_of}
use Rattle.xq_atoms.specs.Cast.{text_of}
use Rattle.xq_atoms.specs.Judged.{Judged}
use Rattle.xq_atoms.specs.Text.{Text}
use Rattle.xq_trees.specs.Tree.{Tree}
use Rattle.xq_meaning.specs.Arguments.{atomic}
use Rattle.xq_meaning.specs.Doing.{Outcome}
use Rattle.xq_meaning.specs.Items.{Item}

-- what is judged is this one atom, or this refusal; where no atom is told, nothing is said
abbrev pub TellsResult : Judged (List Item) → Result (Option Atom) Code → Type 0
TellsResult judged (Ok (Some atom)) = judged ≡ Ok (atomic (atomic_of atom))
TellsResult judged (Ok None) = Unit {0}
TellsResult judged (Err code) = judged ≡ Err code

-- the same of an outcome, which leaves the trees
abbrev pub TellsNumber : Outcome (List Item) → List Tree → Result (Option Atom) Code → Type 0
TellsNumber outcome trees (Ok (Some atom)) = outcome ≡ (Ok (atomic (atomic_of atom)), trees)
TellsNumber outcome trees (Ok None) = Unit {0}
TellsNumber outcome trees (Err code) = outcome ≡ (Err code, trees)

-- the outcome is one atom, whose text was added to this one, and leaves the trees; or it is the
-- refusal; where nothing is told, nothing is said
abbrev pub AddsPiece : Outcome (List Item) → List Tree → Text → Text → Result Bool Fault → Type 0
AddsPiece outcome trees old new (Ok true) =
    (a : Atomic) × ((outcome ≡ (Ok (atomic a), trees)) × (new ≡ old ++ text_of a))
AddsPiece outcome trees old new (Ok false) = Unit {0}
AddsPiece outcome trees old new (Err (OfCode code)) = outcome ≡ (Err code, trees)
AddsPiece outcome trees old new (Err (OfWant want)) = Unit {0}
