-- The nodes among which the predicates of a step choose.
use Rattle.std.specs.Prelude.{ℕ, ◌≡◌, ◌-◌, List, map, take, drop, length, Result}
use Rattle.std.specs.Global.{Vec}
use Rattle.xq_atoms.specs.declared.refusals.Fault.{Fault}
use Rattle.xq_trees.specs.declared.Axis.{Axis}
use Rattle.xq_trees.specs.declared.items.Item.{Item as Held}
use Rattle.xq_trees.specs.Tree.{Tree}
use Rattle.xq_meaning.specs.declared.node_tests.Test.{Test}
use Rattle.xq_meaning.specs.declared.plans.Plan.{Plan}
use Rattle.xq_meaning.specs.Doing.{Doing, Outcome, go_on, in_turn}
use Rattle.xq_meaning.specs.Forms as Forms
use Rattle.xq_meaning.specs.Items.{Item}
use Rattle.xq_meaning.specs.PlanMeaning.{Frame, plan_mean}
use Rattle.xq_operators.specs.Views.{on_axis, GivesSequence}

-- what the predicates keep of items
abbrev pub chosen : List Plan → Frame → List Item → Doing (List Item)
chosen predicates frame xs = in_turn (Forms.filtered frame) xs (map plan_mean predicates)

-- they keep the same of the first items, so many at most, as of all
abbrev pub Suffices : List Plan → ℕ → Type 0
Suffices predicates most = (frame : Frame) (xs : List Item) (trees : List Tree)
    → chosen predicates frame (take most xs) trees ≡ chosen predicates frame xs trees

-- and of the last item, where there is one
abbrev pub LastSuffices : List Plan → Type 0
LastSuffices predicates = (frame : Frame) (xs : List Item) (trees : List Tree)
    → chosen predicates frame (drop (length xs - 1) xs) trees ≡ chosen predicates frame xs trees

-- the result is that of some nodes: the predicates keep the same of them as of all on the axis
pub record Chooses (axis : Axis) (test : Test) (predicates : List Plan) (frame : Frame)
    (old new : List Tree) (result : Result (Vec Held) Fault) : Type 0 where
  pub outcome : Outcome (List Item)
  pub gives : GivesSequence outcome new result
  pub keeps : go_on outcome (chosen predicates frame)
      ≡ go_on (on_axis axis test frame.focus old) (chosen predicates frame)
