-- The value of a variable, or the context item, where that is one node.
use Rattle.std.proofs.Common.{◌≡◌, ℕ, List, [], ◌∷◌, Ok, Some, sym, ◌∙◌, ap, subst}
use Rattle.xq_trees.specs.declared.items.Node.{Node as Spot}
use Rattle.xq_trees.specs.Items.{Place as NodeAt, item_view}
use Rattle.xq_trees.specs.Tuples.{value_at}
use Rattle.xq_tuples.specs.Views.{values_of}
use Rattle.xq_expressions.specs.declared.signatures.Function.{Function}
use Rattle.xq_meaning.specs.declared.plans.Plan.{Plan, out-Plan}
use Rattle.xq_meaning.specs.declared.plans.Plan.TheVariants as plan
use Rattle.xq_meaning.specs.declared.plans.Plan.TheOpen.{Plan-F}
use Rattle.xq_meaning.specs.declared.plans.PlanClause.{PlanClause}
use Rattle.xq_meaning.specs.declared.plans.PlanStep.{PlanStep}
use Rattle.xq_meaning.specs.Doing.{judged}
use Rattle.xq_meaning.specs.Readings.{item_at, items_at, IsIn, AreIn}
use Rattle.xq_meaning.specs.Steps.{context_item}
use Rattle.xq_meaning.specs.PlanMeaning.{plan_mean}
use Rattle.xq_meaning.proofs.PlanEquations.{plan-Slot, plan-ContextItem}
use Rattle.xq_operators.specs.declared.contexts.Focus.{Focus}
use Rattle.xq_operators.specs.declared.contexts.EvalContext.{EvalContext}
use Rattle.xq_operators.specs.Paths.{IsHeld}
use Rattle.xq_operators.specs.Views.{focus_at, frame_at, FocusIn}
use Rattle.xq_operators.proofs.Growth.{value_in}

-- a plan, opened once
abbrev Form : Type 0
Form = Plan-F Plan PlanClause PlanStep

abbrev IsCall : Form → Type 0
IsCall (Plan-F.Call function parts) = Unit {0}
IsCall form = ⊥

not_call : (p : Plan) (form : Form) → out-Plan p ≡ form → (IsCall form → ⊥) → (function : Function) (parts : List Plan) → p ≡ plan.Call function parts → ⊥
not_call p form is other function parts e = other (subst IsCall (sym (ap out-Plan e ∙ plan.outs-Call function parts) ∙ is) tt)

pub held_slot : (frame : EvalContext) (p : Plan) (number : ℕ) (n : Spot) → p ≡ plan.Slot number → value_at number (values_of frame.slots.now) ≡ NodeAt n ∷ [] → IsHeld frame p n
held_slot frame p number n is one = record {
  no_call = not_call p (Plan-F.Slot number) (ap out-Plan is ∙ plan.outs-Slot number) (λ h. h);
  there = λ trees inside. (subst (AreIn trees) one (value_in trees number (values_of frame.slots.now) inside.slots_in).0).0;
  value = λ trees inside.
      let v = value_in trees number (values_of frame.slots.now) inside.slots_in in
      ap (λ q. plan_mean q (frame_at trees frame) trees) is ∙ ap (λ m. m (frame_at trees frame) trees) (plan-Slot number) ∙ ap (λ xs. (Ok xs, trees)) (v.1 ∙ ap (items_at trees) one);
}

pub held_context : (frame : EvalContext) (p : Plan) (focus : Focus) (n : Spot) → p ≡ plan.ContextItem → frame.focus ≡ Some focus → item_view focus.item.now ≡ NodeAt n → IsHeld frame p n
held_context frame p focus n is at one = record {
  no_call = not_call p Plan-F.ContextItem (ap out-Plan is ∙ plan.outs-ContextItem) (λ h. h);
  there = λ trees inside. subst (IsIn trees) one (subst (FocusIn trees) at inside.focus_in);
  value = λ trees inside.
      ap (λ q. plan_mean q (frame_at trees frame) trees) is ∙ ap (λ m. m (frame_at trees frame) trees) plan-ContextItem
      ∙ ap (λ o. judged (context_item (focus_at trees o)) trees) at ∙ ap (λ x. (Ok (item_at trees x ∷ []), trees)) one;
}
