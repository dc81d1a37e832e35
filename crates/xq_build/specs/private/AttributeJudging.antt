-- Judging nodes one after another.
use Rattle.std.specs.Prelude.{ℕ, List, ◌∷◌, map, reverse, Bool, Some, ◌≡◌, Result, Ok, Err}
use Rattle.xq_atoms.specs.Text.{Text}
use Rattle.xq_atoms.specs.declared.refusals.Fault.{Fault}
use Rattle.xq_atoms.specs.declared.refusals.Fault.TheVariants.{Code as OfCode, Want as OfWant}
use Rattle.xq_trees.specs.declared.Kind.{Kind}
use Rattle.indexmap.specs.IndexSet.{IndexSet}
use denote.Ref.{Bor}
use Rattle.xq_build.specs.private.Leaves.{Leaf}
use Rattle.xq_build.specs.private.Attributes.{fault_from}

-- the names of attributes, the last one first
abbrev pub names_of : {S : Type 0} → IndexSet (Bor (List ℕ)) S → List Text
names_of set = reverse (map (λ k. k.now) set.keys)

-- the node is let through, or a code is given, whatever others come
abbrev pub JudgesLeaf : Kind → List Text → Bool → Leaf → List Text → Result Bool Fault → Type 0
JudgesLeaf parent old late p new (Ok later) = (others : List Leaf)
    → fault_from parent new later others ≡ fault_from parent old late (p ∷ others)
JudgesLeaf parent old late p new (Err (OfCode code)) = (others : List Leaf)
    → fault_from parent old late (p ∷ others) ≡ Some code
JudgesLeaf parent old late p new (Err (OfWant want)) = Unit {0}
