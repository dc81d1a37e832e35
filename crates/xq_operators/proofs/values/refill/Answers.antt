use Rattle.std.proofs.Common.{◌≡◌, ◌∙◌, ap, sym, take, ◌++◌}
use Rattle.std.proofs.lemmas.List.{map-append, take-map}
use Rattle.xq_tuples.specs.Views.{slot_items, values_of}
use Rattle.xq_tuples.proofs.Copies.{values_of-clones}
use Rattle.xq_operators.proofs.values.refill.Goals as goal

pub returns : goal.returns
returns c =
    let made = c.in_ok-extend_from_slice.ensures.items in
    let kept : values_of c.truncate.new.self.items ≡ take c.args.outer (values_of c.args.slots.now.items) = ap values_of c.truncate.ensures.items ∙ sym (take-map slot_items c.args.outer c.args.slots.now.items) in
    ap values_of made.1 ∙ map-append slot_items c.truncate.new.self.items made.0 ∙ (λ t. kept t ++ values_of-clones c.args.tuple.now made.0 made.2 t)
