use Rattle.std.proofs.Common.{◌∙◌, ◌++◌, ◌∷◌, [], ap, sym, take}
use Rattle.std.proofs.lemmas.List.{map-append, take-map}
use Rattle.xq_tuples.specs.Views.{slot_items, values_of}
use Rattle.xq_operators.proofs.values.rebind.Goals as goal

pub returns : goal.returns
returns c =
    ap values_of c.in_ok-push.ensures.items
    ∙ map-append slot_items c.truncate.new.self.items (c.in_ok-of_item.field-0 ∷ [])
    ∙ ap (λ xs. xs ++ slot_items c.in_ok-of_item.field-0 ∷ []) (ap values_of c.truncate.ensures.items ∙ sym (take-map slot_items c.args.kept c.args.slots.now.items))
    ∙ ap (λ v. take c.args.kept (values_of c.args.slots.now.items) ++ v ∷ []) (c.in_ok-of_item.ensures.value ∙ ap (λ x. x ∷ []) c.in_ok-try_clone.ensures.item)
