-- Filter expressions that choose among the value of a variable.
use Rattle.std.specs.Prelude.{◌≡◌, List, ◌∷◌, map, Ok}
use Rattle.xq_trees.specs.Items.{item_view}
use Rattle.xq_trees.specs.Tree.{Tree}
use Rattle.xq_tuples.specs.declared.slots.SlotValue.{SlotValue}
use Rattle.xq_tuples.specs.Views.{values_of}
use Rattle.xq_meaning.specs.declared.plans.Plan.{Plan}
use Rattle.xq_meaning.specs.PlanMeaning.{Frame, plan_mean}
use Rattle.xq_meaning.specs.Readings.{items_at, AreIn}
use Rattle.xq_operators.specs.Views.{tuple_at, TupleIn}
use Rattle.xq_eval.specs.declared.lent.FilteredVariable.{FilteredVariable}

-- wherever the variables have the values of these slots, the plan gives these items, and does
-- nothing else; the predicates are the first one and the rest
pub record Filters (slots : List SlotValue) (start : Plan) (predicates : List Plan)
    (found : FilteredVariable) : Type 0 where
  pub predicates_are : predicates ≡ found.first.now ∷ found.rest.now
  pub items_are : (trees : List Tree) (frame : Frame) → frame.env ≡ tuple_at trees (values_of slots)
      → plan_mean start frame trees ≡ (Ok (items_at trees (map item_view found.items.now)), trees)
  pub items_in : (trees : List Tree) → TupleIn trees (values_of slots)
      → AreIn trees (map item_view found.items.now)
