-- Values that are one atom.
use Rattle.std.specs.Prelude.{◌≡◌, List, Option, Some, None, Result, Ok, Err}
use Rattle.xq_atoms.specs.declared.atoms.Atom.{Atom}
use Rattle.xq_atoms.specs.declared.refusals.Fault.{Fault}
use Rattle.xq_atoms.specs.declared.refusals.Fault.TheVariants.{Code as OfCode, Want as OfWant}
use Rattle.xq_atoms.specs.Atom.{Atomic, atomic_of}
use Rattle.xq_trees.specs.Tree.{Tree}
use Rattle.xq_meaning.specs.Doing.{Outcome}

-- the outcome is what is made of the atom, over these trees, or it is the refusal; where no atom is
-- told, nothing is said
abbrev pub Tells : {B : Type 0} → (Atomic → B) → Outcome B → List Tree →
    Result (Option Atom) Fault → Type 0
Tells make outcome trees (Ok (Some atom)) = outcome ≡ (Ok (make (atomic_of atom)), trees)
Tells make outcome trees (Ok None) = Unit {0}
Tells make outcome trees (Err (OfCode code)) = outcome.0 ≡ Err code
Tells make outcome trees (Err (OfWant want)) = Unit {0}
