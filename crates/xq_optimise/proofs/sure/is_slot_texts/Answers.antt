use Rattle.std.proofs.Common.{◌∙◌, ap, subst}
use Rattle.xq_expressions.specs.declared.signatures.Function.{Function}
use Rattle.xq_meaning.specs.declared.plans.Plan.TheVariants as plan
use Rattle.xq_optimise.specs.private.Kinds.{IsSlotOfOne}
use Rattle.xq_optimise.proofs.KindLaws.{slot_texts, string_texts}
use Rattle.xq_optimise.proofs.sure.is_slot_texts.Goals as goal

pub returns-in-Slot : goal.returns-in-Slot
returns-in-Slot c = λ e. slot_texts c.args.known.now c.args.plan.now c.in-Slot.slot c.in-Slot.is (c.has_texts.ensures e)

pub returns-in-String : goal.returns-in-String
returns-in-String c = λ e.
    string_texts c.args.known.now c.args.plan.now c.in-Call.parts
    (c.in-Call.is ∙ ap (λ (n : Function). plan.Call n c.in-Call.parts) c.in-String.is)
    (subst (IsSlotOfOne c.args.known.now) c.as_slice.ensures (c.is_slot_of_one.ensures e))
