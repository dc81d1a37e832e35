use Rattle.std.proofs.Common.{◌++◌, ◌∷◌, [], ◌∙◌, ap, sym, map}
use Rattle.std.proofs.lemmas.List.{append-nil}
use Rattle.std.proofs.lemmas.Result.{IfOk-weaker}
use Rattle.xq_trees.specs.Items.{item_view}
use Rattle.xq_tuples.specs.Views.{values_of}
use Rattle.xq_tuples.proofs.Copies.{values_of-clones}
use Rattle.xq_eval.specs.private.Joining.{carried_at}
use Rattle.xq_eval.proofs.pairs.carried_slots.Goals as goal

pub returns-in-Some : goal.returns-in-Some
returns-in-Some c =
    let outside = values_of c.args.outside.now in
    let slots = outside ++ values_of c.args.tuple.now in
    let copied = values_of-clones c.args.outside.now c.in_ok-slots.slots.items c.in_ok-slots.ensures.ok in
    IfOk-weaker c.with_slot.result _ _
    (λ more h. h ∙ ap (λ s. s ++ map item_view c.value.result.now ∷ []) copied ∙ ap (λ v. outside ++ v ∷ []) c.value.ensures ∙ ap (λ o. outside ++ carried_at o slots) (sym c.in-Some.is)) c.with_slot.ensures

pub returns-in-None : goal.returns-in-None
returns-in-None c =
    let outside = values_of c.args.outside.now in
    let slots = outside ++ values_of c.args.tuple.now in
    values_of-clones c.args.outside.now c.in_ok-slots.slots.items c.in_ok-slots.ensures.ok ∙ sym (append-nil outside) ∙ ap (λ o. outside ++ carried_at o slots) (sym c.in-None.is)
