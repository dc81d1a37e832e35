-- Calls on each of several items.
use Rattle.std.specs.Prelude.{◌≡◌, List, [], ◌∷◌}
use Rattle.xq_expressions.specs.declared.signatures.Function.{Function}
use Rattle.xq_trees.specs.Tree.{Tree}
use Rattle.xq_meaning.specs.declared.plans.Plan.{Plan}
use Rattle.xq_meaning.specs.Forms as Forms
use Rattle.xq_meaning.specs.Functions.{Focus, of_one}
use Rattle.xq_meaning.specs.PlanMeaning.{Frame, plan_mean}

-- in any focus, the part is a call of the function whose only argument is the item in focus
abbrev pub CallsOnItem : Function → Plan → Type 0
CallsOnItem function part = (frame : Frame) (spot : Focus) (trees : List Tree)
    → plan_mean part (Forms.in_focus frame spot) trees
    ≡ (of_one function trees frame.addresses (spot.item ∷ []), trees)
