use Rattle.std.proofs.Common.{◌≡◌, map, Ok, ap, sym, subst, ◌∙◌, arith}
use Rattle.xq_trees.specs.Items.{item_view}
use Rattle.xq_trees.specs.Tuples.{value_at}
use Rattle.xq_tuples.specs.Views.{slot_items}
use Rattle.xq_meaning.specs.Readings.{items_at, AreIn}
use Rattle.xq_meaning.specs.PlanMeaning.{Meaning, plan_mean}
use Rattle.xq_meaning.proofs.PlanEquations.{plan-Slot}
use Rattle.xq_eval.proofs.Counted.{slot_value, slot_in}
use Rattle.xq_eval.proofs.lent.filtered_variable.Goals as goal

pub returns : goal.returns
returns c =
    let number = c.in-Slot.number in
    let slots = c.args.slots.now in
    let slot = c.index-slots-number.result in
    let same : map item_view c.items.result.now ≡ slot_items slot = c.items.ensures in
    record {
      predicates_are = c.in_ok-first.ensures.cases.0;
      items_are = λ trees frame env.
          ap (λ q. plan_mean q frame trees) c.in-Slot.is ∙ ap (λ (m : Meaning). m frame trees) (plan-Slot number)
          ∙ ap (λ xs. (Ok xs, trees)) (ap (value_at number) env ∙ slot_value trees slots number slot (omega arith) c.index-slots-number.is ∙ sym (ap (items_at trees) same));
      items_in = λ trees inside. subst (AreIn trees) (sym same) (slot_in trees slots number slot (omega arith) c.index-slots-number.is inside);
    }
