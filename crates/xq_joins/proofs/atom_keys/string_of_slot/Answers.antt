use Rattle.std.proofs.Common.{◌∙◌, map, ap, sym, subst}
use Rattle.std.specs.Prelude.{String, string_bytes}
use Rattle.std.specs.Global.{Global}
use Rattle.std.proofs.lemmas.List.{append-nil}
use Rattle.xq_trees.specs.Items.{item_view}
use Rattle.xq_trees.specs.Tuples.{value_at}
use Rattle.xq_tuples.specs.Views.{values_of}
use Rattle.xq_meaning.specs.declared.plans.Plan.TheVariants as plan
use Rattle.xq_joins.specs.private.AtomKeys.{IsAtomText}
use Rattle.xq_joins.specs.private.Texts.{GivesText}
use Rattle.xq_joins.proofs.AtomKeys.{slot_string}
use Rattle.xq_joins.proofs.Lists.{if_some}
use Rattle.xq_joins.proofs.atom_keys.string_of_slot.Goals as goal

pub returns : goal.returns
returns c =
    let slots = values_of c.args.slots.now in
    let p = c.args.plan.now in
    let n = c.in-Some.slot in
    if_some (λ (t : String Global). IsAtomText (map item_view c.value.result.now) (string_bytes t)) (λ (t : String Global). GivesText slots (string_bytes t) p) c.text_of_atom.result
    (λ t held. slot_string slots n p c.as_slice.result.now (string_bytes t) (c.in-Call.is ∙ (λ i. plan.Call (c.in-String.is i) (sym c.as_slice.ensures i))) c.in-Some.ensures (subst (λ xs. IsAtomText xs (string_bytes t)) (c.value.ensures ∙ ap (value_at n) (append-nil slots)) held))
    c.text_of_atom.ensures
