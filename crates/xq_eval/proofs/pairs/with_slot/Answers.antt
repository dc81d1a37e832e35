use Rattle.std.proofs.Common.{◌++◌, ◌∷◌, [], ◌∙◌, ap, map}
use Rattle.std.proofs.lemmas.List.{map-append}
use Rattle.xq_tuples.specs.Views.{slot_items, values_of}
use Rattle.xq_eval.proofs.pairs.with_slot.Goals as goal

pub returns : goal.returns
returns c =
    let slots = c.args.slots.items in
    let slot = c.in_ok-of_items.field-0 in
    ap values_of c.in_ok-push.ensures.items ∙ map-append slot_items slots (slot ∷ []) ∙ ap (λ v. values_of slots ++ v ∷ []) (c.in_ok-of_items.ensures.value ∙ c.in_ok-items.ensures)
