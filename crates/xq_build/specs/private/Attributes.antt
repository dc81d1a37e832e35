-- The first fault of the attributes among nodes, where a node at the top has the level 0.
use Rattle.std.specs.Prelude.{List, [], ◌∷◌, Bool, true, false, ◌==◌, Option, Some, None, ◌≡◌, Result, Ok, Err}
use Rattle.xq_atoms.specs.Text.{Text}
use Rattle.xq_atoms.specs.declared.refusals.Code.{Code}
use Rattle.xq_atoms.specs.declared.refusals.Fault.{Fault}
use Rattle.xq_atoms.specs.declared.refusals.Fault.TheVariants.{Code as OfCode, Want as OfWant}
use Rattle.xq_trees.specs.Tree.{Label}
use Rattle.xq_trees.specs.declared.Kind.{Kind}
use Rattle.xq_meaning.specs.Content.{first_fault}
use Rattle.xq_build.specs.private.Leaves.{Leaf}

abbrev pub labels_if : Bool → Leaf → List Label → List Label
labels_if true p labels = p.1 ∷ labels
labels_if false p labels = labels

abbrev pub top_labels : List Leaf → List Label
top_labels [] = []
top_labels (p ∷ ps) = labels_if (p.0 == 0) p (top_labels ps)

abbrev pub fault_from : Kind → List Text → Bool → List Leaf → Option Code
fault_from parent names late ps = first_fault parent names late (top_labels ps)

-- a code is given where there is a fault
abbrev pub JudgedAs : Option Code → Result (Unit {0}) Fault → Type 0
JudgedAs fault (Ok done) = fault ≡ None
JudgedAs fault (Err (OfCode code)) = fault ≡ Some code
JudgedAs fault (Err (OfWant want)) = Unit {0}
