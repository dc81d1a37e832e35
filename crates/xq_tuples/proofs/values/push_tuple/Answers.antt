use Rattle.std.proofs.Common.{◌++◌, ap, ◌∙◌}
use Rattle.std.proofs.lemmas.List.{map-append}
use Rattle.xq_tuples.specs.Views.{slot_items, values_of}
use Rattle.xq_tuples.proofs.Copies.{values_of-clones}
use Rattle.xq_tuples.proofs.values.push_tuple.Goals as goal

pub returns-clause-slots : goal.returns-clause-slots
returns-clause-slots c =
    let before = c.args.slots.now.items in
    let made = c.in_ok-extend_from_slice.ensures.items in
    ap values_of made.1 ∙ map-append slot_items before made.0 ∙ ap (λ l. values_of before ++ l) (values_of-clones c.args.tuple.now made.0 made.2)
