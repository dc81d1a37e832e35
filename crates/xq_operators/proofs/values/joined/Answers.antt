use Rattle.std.proofs.Common.{◌∙◌, ap, ◌++◌}
use Rattle.std.proofs.lemmas.List.{map-append}
use Rattle.xq_tuples.specs.Views.{slot_items, values_of}
use Rattle.xq_tuples.proofs.Copies.{values_of-clones}
use Rattle.xq_operators.proofs.values.joined.Goals as goal

pub returns : goal.returns
returns c =
    ap values_of c.in_ok-append.ensures.items
    ∙ map-append slot_items c.in_ok-all.all.items c.in_ok-more.more.items
    ∙ ap (λ xs. xs ++ values_of c.in_ok-more.more.items) (values_of-clones c.args.slots.now c.in_ok-all.all.items c.in_ok-all.ensures.ok)
    ∙ ap (λ ys. values_of c.args.slots.now ++ ys) (values_of-clones c.args.tuple.now c.in_ok-more.more.items c.in_ok-more.ensures.ok)
