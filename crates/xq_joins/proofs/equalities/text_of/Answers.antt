use Rattle.std.proofs.Common.{◌∙◌, sym, ap, subst}
use Rattle.std.proofs.lemmas.List.{append-nil}
use Rattle.std.proofs.lemmas.Option.{IfSome_then}
use Rattle.xq_trees.specs.Tuples.{value_at}
use Rattle.xq_tuples.specs.Views.{values_of}
use Rattle.xq_meaning.specs.declared.plans.Plan.TheVariants as plan
use Rattle.xq_joins.specs.private.Texts.{AreText}
use Rattle.xq_joins.proofs.TextTests.{literal_text, slot_text}
use Rattle.xq_joins.proofs.equalities.text_of.Goals as goal

pub returns-in-Str : goal.returns-in-Str
returns-in-Str c = literal_text (values_of c.args.slots.now) c.as_str.result.now c.args.plan.now (c.in-Str.is ∙ ap plan.Str (sym c.as_str.ensures))

pub returns-in-Slot : goal.returns-in-Slot
returns-in-Slot c =
    let slots = values_of c.args.slots.now in
    let number = c.in-Slot.number in
    IfSome_then c.only_text.result c.only_text.ensures
    (λ text h. slot_text slots text.now number c.args.plan.now c.in-Slot.is (subst (λ vs. AreText vs text.now) (c.value.ensures ∙ ap (value_at number) (append-nil slots)) h))
