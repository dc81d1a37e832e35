-- A path of scans from a document stays as it is.
use Rattle.std.specs.Prelude.{◌≡◌, List}
use Rattle.xq_atoms.specs.Text.{Text}
use Rattle.xq_trees.specs.declared.Axis.{Axis}
use Rattle.xq_meaning.specs.declared.node_tests.Test.{Test}
use Rattle.xq_meaning.specs.declared.plans.Plan.{Plan}
use Rattle.xq_plan.specs.Scans.{path_of_scans}

-- where the first plan is such a path, the second is the same
abbrev pub KeepsScans : Plan → Plan → Type 0
KeepsScans p q =
    (address : Text) (steps : List (Axis × Test)) → p ≡ path_of_scans address steps → q ≡ p

-- it is none
abbrev pub IsNoPathOfScans : Plan → Type 0
IsNoPathOfScans p =
    (address : Text) (steps : List (Axis × Test)) → p ≡ path_of_scans address steps → ⊥
