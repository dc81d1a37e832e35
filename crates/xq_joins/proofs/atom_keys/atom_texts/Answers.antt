use Rattle.std.proofs.Common.{◌∙◌, List, Option, map, ap, subst}
use Rattle.std.specs.Prelude.{String, string_bytes, IfSome}
use Rattle.std.specs.Global.{Global, Vec}
use Rattle.std.proofs.lemmas.List.{append-nil}
use Rattle.xq_trees.specs.Items.{item_view}
use Rattle.xq_trees.specs.Tree.{Tree}
use Rattle.xq_trees.specs.Tuples.{value_at}
use Rattle.xq_tuples.specs.Views.{values_of}
use Rattle.xq_meaning.specs.Items.{atomized}
use Rattle.xq_meaning.specs.Readings.{items_at}
use Rattle.xq_joins.specs.private.AtomKeys.{GivesTexts}
use Rattle.xq_joins.specs.private.JoinKeys.{AreTexts}
use Rattle.xq_joins.specs.private.Texts.{GivesText}
use Rattle.xq_joins.proofs.AtomKeys.{slot_texts, one_text}
use Rattle.xq_joins.proofs.Lists.{some_of_all}
use Rattle.xq_joins.proofs.atom_keys.atom_texts.Goals as goal

pub returns-in-Slot : goal.returns-in-Slot
returns-in-Slot c =
    let slots = values_of c.args.slots.now in
    let n = c.in-Slot.slot in
    some_of_all (λ (f : List Tree) (ts : Vec (String Global)). AreTexts (atomized f (items_at f (map item_view c.value.result.now))) (map string_bytes ts.items))
    (λ (ts : Vec (String Global)). GivesTexts slots (map string_bytes ts.items) c.args.plan.now) c.texts_in.result
    (λ ts are. slot_texts slots n c.args.plan.now (map string_bytes ts.items) c.in-Slot.is
    (λ f. subst (λ xs. AreTexts (atomized f (items_at f xs)) (map string_bytes ts.items)) (c.value.ensures ∙ ap (value_at n) (append-nil slots)) (are f)))
    c.texts_in.ensures

pub returns : goal.returns
returns c =
    let slots = values_of c.args.slots.now in
    let p = c.args.plan.now in
    one_text slots (string_bytes c.in-Some.text) (map string_bytes c.in_ok-alone.field-0.items) p c.in_ok-alone.ensures
    (subst (λ (o : Option (String Global)). IfSome o (λ t. GivesText slots (string_bytes t) p)) c.in-Some.is c.in_ok-text.ensures)
