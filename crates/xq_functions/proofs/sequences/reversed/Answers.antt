use Rattle.std.proofs.Common.{map, ap, ◌∙◌}
use Rattle.indexmap.proofs.ReorderLemmas.{map-reverse}
use Rattle.xq_trees.specs.Items.{item_view}
use Rattle.xq_meaning.specs.Readings.{item_at, items_at}
use Rattle.xq_functions.proofs.sequences.reversed.Goals as goal

pub returns : goal.returns
returns c trees =
    let items = c.args.items.items in
    ap (λ xs. items_at trees (map item_view xs)) c.reverse.ensures.items ∙ ap (items_at trees) (map-reverse item_view items) ∙ map-reverse (item_at trees) (map item_view items)
