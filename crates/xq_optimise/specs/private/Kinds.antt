-- What parts give by their form.
use Rattle.std.specs.Prelude.{◌≡◌, ℕ, List, [], ◌∷◌, ◌++◌}
use Rattle.xq_atoms.specs.Text.{Text}
use Rattle.xq_expressions.specs.declared.signatures.Function.{Function}
use Rattle.xq_trees.specs.declared.Axis.{Axis}
use Rattle.xq_trees.specs.Tree.{Tree}
use Rattle.xq_meaning.specs.declared.node_tests.Test.{Test}
use Rattle.xq_meaning.specs.declared.plans.Plan.{Plan}
use Rattle.xq_meaning.specs.declared.plans.Plan.TheVariants as plan
use Rattle.xq_meaning.specs.declared.plans.PlanStep.{PlanStep}
use Rattle.xq_meaning.specs.Items.{Item}
use Rattle.xq_meaning.specs.PlanMeaning.{Frame, plan_mean, plan_step_mean}
use Rattle.xq_optimise.specs.declared.held.Held.{Held}
use Rattle.xq_optimise.specs.declared.held.Held.TheVariants as has
use Rattle.xq_optimise.specs.Sure.{SurelyTexts, ReadsBelow, IgnoresFocus}
use Rattle.xq_optimise.specs.private.Parts.{GivesHeld, IsKnown, IsOfOne}

-- a step from the node in focus
abbrev pub IsStep : Plan → Type 0
IsStep p = (axis : Axis) × (test : Test) × (ps : List Plan) × (p ≡ plan.Step axis test ps)

-- what follows a slash gives nodes alone, whatever stands before it
abbrev pub LeavesNodes : PlanStep → Type 0
LeavesNodes s =
    (frame : Frame) (xs : List Item) (trees : List Tree) →
    GivesHeld has.Nodes (plan_step_mean s frame xs trees)

-- there are steps, and after the last one there are nodes alone
abbrev pub EndsInNodes : List PlanStep → Type 0
EndsInNodes steps =
    (before : List PlanStep) × (s : PlanStep) × (steps ≡ before ++ s ∷ []) × LeavesNodes s

-- the part gives one string in each frame where it has a value
abbrev pub GivesText : Plan → Type 0
GivesText p =
    (frame : Frame) (trees : List Tree) → GivesHeld has.Text (plan_mean p frame trees)

-- a call of the function does
abbrev pub IsOfText : Function → Type 0
IsOfText function = (ps : List Plan) → GivesText (plan.Call function ps)

-- there are parts, and the last one does
abbrev pub EndsInText : List Plan → Type 0
EndsInText ps = (before : List Plan) × (p : Plan) × (ps ≡ before ++ p ∷ []) × GivesText p

-- a string literal
abbrev pub IsString : Plan → Type 0
IsString p = (t : Text) × (p ≡ plan.Str t)

-- one part, a slot with at most one item
abbrev pub IsSlotOfOne : List Held → List Plan → Type 0
IsSlotOfOne known ps = (n : ℕ) × (ps ≡ plan.Slot n ∷ []) × IsKnown IsOfOne known n

-- texts that are read from a slot, whatever the focus is
pub record AreSlotTexts (known : List Held) (p : Plan) : Type 0 where
  pub sure : SurelyTexts known p
  pub below : ReadsBelow known p
  pub free : IgnoresFocus p
