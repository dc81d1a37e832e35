-- Plans whose value is one atom, known before it is evaluated.
use Rattle.std.specs.Prelude.{◌≡◌, ℕ, pos, List, Ok}
use Rattle.xq_atoms.specs.Atom.{Atomic, Integer}
use Rattle.xq_trees.specs.Tree.{Tree}
use Rattle.xq_tuples.specs.declared.slots.SlotValue.{SlotValue}
use Rattle.xq_tuples.specs.Views.{values_of}
use Rattle.xq_meaning.specs.declared.plans.Plan.{Plan}
use Rattle.xq_meaning.specs.Arguments.{atomic}
use Rattle.xq_meaning.specs.PlanMeaning.{Frame, Meaning, plan_mean}
use Rattle.xq_operators.specs.Views.{tuple_at}

-- in every frame the plan gives this atom, and leaves the trees
abbrev pub Gives : Plan → Atomic → Type 0
Gives p a = (frame : Frame) (trees : List Tree) → plan_mean p frame trees ≡ (Ok (atomic a), trees)

-- it gives some such atom
abbrev pub IsConstant : Plan → Type 0
IsConstant p = (a : Atomic) × Gives p a

-- wherever the variables have the values of these slots, this gives the atom, and leaves the trees
abbrev pub GivesIn : List SlotValue → Meaning → Atomic → Type 0
GivesIn slots meaning a = (trees : List Tree) (frame : Frame)
    → frame.env ≡ tuple_at trees (values_of slots) → meaning frame trees ≡ (Ok (atomic a), trees)

-- the plan gives this number there
abbrev pub IsPosition : List SlotValue → Plan → ℕ → Type 0
IsPosition slots p n = GivesIn slots (plan_mean p) (Integer (pos n))
