use Rattle.std.proofs.Common.{map, reverse, ap, sym, ◌∙◌}
use Rattle.std.specs.Prelude.{if◌then◌else◌}
use Rattle.xq_trees.specs.Items.{item_view, item_views}
use Rattle.xq_trees.proofs.Lists.{map_reverse}
use Rattle.xq_axes.proofs.axis_order.in_axis_order.Goals as goal

pub returns-then-is_reverse : goal.returns-then-is_reverse
returns-then-is_reverse c =
    let views = item_views c.args.items in
    ap (map item_view) c.reverse.ensures.items ∙ map_reverse item_view c.args.items.items ∙ sym (ap (λ b. if b then reverse views else views) (sym c.is_reverse.ensures ∙ c.if-is_reverse.true))
