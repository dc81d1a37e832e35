use Rattle.std.proofs.Common.{◌∙◌, ◌++◌, ◌∷◌, [], ap}
use Rattle.std.proofs.lemmas.List.{map-append}
use Rattle.xq_tuples.specs.Views.{slot_items, values_of}
use Rattle.xq_tuples.proofs.Copies.{values_of-clones}
use Rattle.xq_operators.proofs.values.opened.Goals as goal

pub returns : goal.returns
returns c =
    ap values_of c.in_ok-push.ensures.items
    ∙ map-append slot_items c.in_ok-all.all.items (c.in_ok-of_item.field-0 ∷ [])
    ∙ ap (λ xs. xs ++ slot_items c.in_ok-of_item.field-0 ∷ []) (values_of-clones c.args.slots.now c.in_ok-all.all.items c.in_ok-all.ensures.ok)
    ∙ ap (λ v. values_of c.args.slots.now ++ v ∷ []) (c.in_ok-of_item.ensures.value ∙ ap (λ x. x ∷ []) c.in_ok-try_clone.ensures.item)
