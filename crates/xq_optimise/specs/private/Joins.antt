-- What a join is to a `for` and a `where`.
use Rattle.std.specs.Prelude.{◌≡◌, ◌⊎◌, ℕ, List, [], ◌∷◌, ◌++◌, map, length, false, Option, Some, None}
use Rattle.std.specs.List.{AllByRecursion}
use Rattle.xq_atoms.specs.Judged.{Judged}
use Rattle.xq_atoms.specs.Text.{Text}
use Rattle.xq_expressions.specs.declared.operators.AllowingEmpty.TheVariants as allowing
use Rattle.xq_trees.specs.declared.Axis.{Axis}
use Rattle.xq_trees.specs.Tree.{Tree}
use Rattle.xq_trees.specs.Tuples.{Tuple}
use Rattle.xq_meaning.specs.declared.joins.Equality.{Equality}
use Rattle.xq_meaning.specs.declared.joins.Join.{Join}
use Rattle.xq_meaning.specs.declared.joins.JoinKey.{JoinKey}
use Rattle.xq_meaning.specs.declared.node_tests.Test.{Test}
use Rattle.xq_meaning.specs.declared.operators.Operator.{Operator}
use Rattle.xq_meaning.specs.declared.plans.Plan.{Plan}
use Rattle.xq_meaning.specs.declared.plans.Plan.TheVariants as plan
use Rattle.xq_meaning.specs.declared.plans.PlanClause.{PlanClause}
use Rattle.xq_meaning.specs.declared.plans.PlanClause.TheVariants as clause
use Rattle.xq_meaning.specs.declared.plans.PlanStep.{PlanStep}
use Rattle.xq_meaning.specs.declared.plans.PlanStep.TheVariants as step
use Rattle.xq_meaning.specs.Doing.{in_turn}
use Rattle.xq_meaning.specs.Functions.{Focus}
use Rattle.xq_meaning.specs.Items.{Item}
use Rattle.xq_meaning.specs.PlanMeaning.{Slots, Frame, comparison, key_mean, keys_equal, next_clause, plan_mean, plan_clause_mean, plan_step_mean}
use Rattle.xq_meaning.specs.Same.{frame_of}
use Rattle.xq_optimise.specs.private.Parts.{IsScan}

-- # Keys

-- a step that is a scan
abbrev pub scan_step : Axis × Test → PlanStep
scan_step (axis, test) = step.Scan axis test

-- a comparison of two parts for equality
abbrev pub equal_plan : Equality → Plan → Plan → Plan
equal_plan equality p q = plan.Chain p ((comparison equality, q) ∷ [])

-- the plan is a slot, or these scans from it
abbrev pub StartsAt : ℕ → List (Axis × Test) → Plan → Type 0
StartsAt slot scans p =
    ((p ≡ plan.Slot slot) × (scans ≡ [])) ⊎ (p ≡ plan.Path (plan.Slot slot) (map scan_step scans))

-- in every frame and over any trees the key gives what the plan gives
abbrev pub IsKey : JoinKey → Plan → Type 0
IsKey key p = (frame : Frame) (trees : List Tree) → key_mean key frame trees ≡ plan_mean p frame trees

-- and the comparison of the keys what the plan gives
abbrev pub IsKeys : Join → Plan → Type 0
IsKeys join p =
    (frame : Frame) (trees : List Tree) → keys_equal join frame trees ≡ plan_mean p frame trees

-- # Ranges

-- the plan starts from one slot by scans, and the other one is the same from another slot
abbrev pub IsRenamed : ℕ → ℕ → Plan → Plan → Type 0
IsRenamed old new p q =
    ((p ≡ plan.Slot old) × (q ≡ plan.Slot new))
    ⊎ ((steps : List PlanStep) × (p ≡ plan.Path (plan.Slot old) steps)
    × (q ≡ plan.Path (plan.Slot new) steps) × AllByRecursion IsScan steps)

-- where so many slots are outside, it reads none of those that come after them
abbrev pub ReadsOutside : ℕ → Plan → Type 0
ReadsOutside outer p =
    (slots more : Slots) (focus : Option Focus) (addresses : List Text) (trees : List Tree) →
    (outer ≡ 0) ⊎ (outer ≡ length slots) →
    plan_mean p (frame_of (slots ++ more) focus addresses) trees
    ≡ plan_mean p (frame_of slots focus addresses) trees

-- the part gives a value or a code, and leaves the trees as they are
abbrev pub LeavesTrees : Plan → Type 0
LeavesTrees p =
    (frame : Frame) (trees : List Tree) →
    (given : Judged (List Item)) × (plan_mean p frame trees ≡ (given, trees))

-- it reads no other slots, and leaves the trees
abbrev pub IsOutside : ℕ → Plan → Type 0
IsOutside outer p = ReadsOutside outer p × LeavesTrees p

-- the same of an operand
abbrev pub OperandOutside : ℕ → Operator × Plan → Type 0
OperandOutside outer x = IsOutside outer x.1

-- what follows a slash reads no other slots
abbrev pub StepReadsOutside : ℕ → PlanStep → Type 0
StepReadsOutside outer s =
    (slots more : Slots) (focus : Option Focus) (addresses : List Text) (trees : List Tree) →
    (outer ≡ 0) ⊎ (outer ≡ length slots) → (xs : List Item) →
    plan_step_mean s (frame_of (slots ++ more) focus addresses) xs trees
    ≡ plan_step_mean s (frame_of slots focus addresses) xs trees

-- and leaves the trees
abbrev pub StepOutside : ℕ → PlanStep → Type 0
StepOutside outer s =
    StepReadsOutside outer s × ((frame : Frame) (xs : List Item) (trees : List Tree) →
    (given : Judged (List Item)) × (plan_step_mean s frame xs trees ≡ (given, trees)))

-- it reads none of them, or starts from this one
abbrev pub Carries : ℕ → Option ℕ → Plan → Type 0
Carries outer None p = ReadsOutside outer p
Carries outer (Some slot) p = IsRenamed slot slot p p

-- # Clauses

-- where so many slots are outside, these clauses give what the others give
abbrev pub SameList : ℕ → List PlanClause → List PlanClause → Type 0
SameList outer cs ds =
    (slots : Slots) (focus : Option Focus) (addresses : List Text) → length slots ≡ outer →
    (tuples : List (Tuple Item)) (trees : List Tree) →
    in_turn (next_clause (frame_of slots focus addresses)) tuples (map plan_clause_mean ds) trees
    ≡ in_turn (next_clause (frame_of slots focus addresses)) tuples (map plan_clause_mean cs) trees

-- the clauses after are those before and some that stand for a `for` and a `where`
abbrev pub AddsJoin : ℕ → Plan → Plan → List PlanClause → List PlanClause → Type 0
AddsJoin outer range test before after =
    SameList outer (before ++ clause.For allowing.No false range ∷ clause.Where test ∷ []) after
