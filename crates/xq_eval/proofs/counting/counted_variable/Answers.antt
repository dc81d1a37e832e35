use Rattle.std.proofs.Common.{◌≡◌, [], ◌∷◌, map, ap, sym, ◌∙◌, arith}
use Rattle.xq_trees.specs.Items.{item_view}
use Rattle.xq_trees.specs.Tuples.{value_at}
use Rattle.xq_meaning.specs.Functions.{of_one}
use Rattle.xq_meaning.specs.Readings.{items_at}
use Rattle.xq_meaning.specs.Forms as Forms
use Rattle.xq_meaning.specs.PlanMeaning.{plan_mean}
use Rattle.xq_meaning.specs.declared.plans.Plan.TheVariants as plan
use Rattle.xq_meaning.proofs.PlanEquations.{plan-Slot}
use Rattle.xq_eval.proofs.Counted.{only_one, slot_value, given_so}
use Rattle.xq_eval.proofs.counting.counted_variable.Goals as goal

pub returns : goal.returns
returns c = λ trees frame env.
    let function = c.args.function in
    let number = c.in-Slot.number in
    let one : c.args.parts.now ≡ plan.Slot number ∷ [] = only_one c.args.parts.now c.index-parts-0.result (omega arith) c.index-parts-0.is ∙ ap (λ p. p ∷ []) c.in-Slot.is in
    let slot = c.index-slots-number.result in
    let items = c.items.result.now in
    let value : value_at number frame.env ≡ items_at trees (map item_view items) =
    ap (value_at number) env ∙ slot_value trees c.args.slots.now number slot (omega arith) c.index-slots-number.is ∙ sym (ap (items_at trees) c.items.ensures) in
    given_so c.counted.result _ _
    (λ given h. (
      h.0,
      ap (λ ps. Forms.call function (map plan_mean ps) frame trees) one ∙ ap (λ m. Forms.call function (m ∷ []) frame trees) (plan-Slot number)
          ∙ ap (λ xs. (of_one function trees frame.addresses xs, trees)) value ∙ ap (λ j. (j, trees)) h.1,
    )) (c.counted.ensures trees frame.addresses)
