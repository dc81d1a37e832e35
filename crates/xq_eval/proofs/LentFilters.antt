-- Filter expressions that choose among the value of a variable.
use Rattle.std.proofs.Common.{◌≡◌, List, ◌∷◌, map, Ok, ◌∙◌, ap, subst}
use Rattle.std.specs.Prelude.{IfSome, Option, Some}
use Rattle.xq_trees.specs.Items.{item_view}
use Rattle.xq_trees.specs.Tree.{Tree}
use Rattle.xq_tuples.specs.declared.slots.SlotValue.{SlotValue}
use Rattle.xq_tuples.specs.Views.{values_of}
use Rattle.xq_meaning.specs.declared.plans.Plan.{Plan}
use Rattle.xq_meaning.specs.Doing.{go_on, in_turn}
use Rattle.xq_meaning.specs.Forms as Forms
use Rattle.xq_meaning.specs.Items.{Item}
use Rattle.xq_meaning.specs.PlanMeaning.{Frame, plan_mean}
use Rattle.xq_meaning.specs.Readings.{items_at}
use Rattle.xq_operators.specs.Views.{tuple_at}
use Rattle.xq_eval.specs.declared.lent.FilteredVariable.{FilteredVariable}
use Rattle.xq_eval.specs.private.Lent.{Filters}

-- one that was found
pub lent_filters : (slots : List SlotValue) (start : Plan) (predicates : List Plan) (r : Option FilteredVariable) (found : FilteredVariable) → r ≡ Some found → IfSome r (λ (it : FilteredVariable). Filters slots start predicates it)
    → Filters slots start predicates found
lent_filters slots start predicates r found is h = subst (λ o. IfSome o (λ (it : FilteredVariable). Filters slots start predicates it)) is h

module _ (slots : List SlotValue) (start : Plan) (predicates : List Plan) (found : FilteredVariable) (is : Filters slots start predicates found) where
  -- the first predicate, and then the others
  pub filters_first : (f : List Tree) (frame : Frame) → frame.env ≡ tuple_at f (values_of slots)
      → Forms.filter_of (plan_mean start) (map plan_mean predicates) frame f
      ≡ go_on (Forms.filtered frame (items_at f (map item_view found.items.now)) (plan_mean found.first.now) f) (λ (xs : List Item). in_turn (Forms.filtered frame) xs (map plan_mean found.rest.now))
  filters_first f frame env =
      ap (λ l. Forms.filter_of (plan_mean start) (map plan_mean l) frame f) is.predicates_are
      ∙ ap (λ o. go_on o (λ (xs : List Item). in_turn (Forms.filtered frame) xs (map plan_mean (found.first.now ∷ found.rest.now)))) (is.items_are f frame env)

  pub filters_then : (f f' : List Tree) (frame : Frame) → frame.env ≡ tuple_at f (values_of slots)
      → (kept : List Item) → Forms.filtered frame (items_at f (map item_view found.items.now)) (plan_mean found.first.now) f ≡ (Ok kept, f')
      → Forms.filter_of (plan_mean start) (map plan_mean predicates) frame f ≡ in_turn (Forms.filtered frame) kept (map plan_mean found.rest.now) f'
  filters_then f f' frame env kept first =
      filters_first f frame env ∙ ap (λ o. go_on o (λ (xs : List Item). in_turn (Forms.filtered frame) xs (map plan_mean found.rest.now))) first
