-- When a normal form and a plan give what the expression gives: result or code, and trees.
use Rattle.std.specs.Prelude.{◌≡◌, List, length, Option}
use Rattle.std.specs.List.{zip}
use Rattle.xq_expressions.specs.declared.expressions.Expr.{Expr}
use Rattle.xq_meaning.specs.declared.normal_forms.Core.{Core}
use Rattle.xq_meaning.specs.declared.plans.Plan.{Plan}
use Rattle.xq_atoms.specs.Text.{Text}
use Rattle.xq_trees.specs.Tree.{Tree}
use Rattle.xq_meaning.specs.Functions.{Focus}
use Rattle.xq_meaning.specs.Forms
use Rattle.xq_meaning.specs.Meaning.{Environment, Frame, bind_all, no_variable, mean}
use Rattle.xq_meaning.specs.CoreMeaning.{core_mean}
use Rattle.xq_meaning.specs.PlanMeaning.{Slots, plan_mean}

-- in every frame and over any trees the normal form gives what the expression gives
abbrev pub IsNormalForm : Expr → Core → Type 0
IsNormalForm e c =
    (frame : Frame) (trees : List Tree) → core_mean c frame trees ≡ mean e frame trees

-- the frame with this environment, this focus and these addresses
abbrev pub frame_of : {E : Type 0} → E → Option Focus → List Text → Forms.Frame E
frame_of env focus addresses = record { env = env; focus = focus; addresses = addresses }

-- what these names stand for, where a later slot of a name hides an earlier one
abbrev pub environment : List Text → Slots → Environment
environment names slots = bind_all no_variable (zip names slots)

-- where slots with these names are open, whatever they hold
abbrev pub IsPlan : List Text → Core → Plan → Type 0
IsPlan names c p =
    (slots : Slots) (focus : Option Focus) (addresses : List Text) (trees : List Tree) →
    length slots ≡ length names →
    plan_mean p (frame_of slots focus addresses) trees
    ≡ core_mean c (frame_of (environment names slots) focus addresses) trees
