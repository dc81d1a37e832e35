use Rattle.std.proofs.Common.{◌≡◌, ◌+◌, ◌++◌}
use Rattle.std.specs.List.{flat_map}
use Rattle.xq_trees.specs.Tuples.{item_values}
use Rattle.xq_trees.specs.Items.{Value, item_view}
use Rattle.xq_tuples.specs.Views.{values_of}
use Rattle.xq_tuples.proofs.values.push_each.Given as goal

abbrev pub invariant-loop-index : goal.invariant-loop-index
invariant-loop-index l =
    values_of l.slots.items ≡ values_of l.fn.slots.items ++ flat_map (λ p. values_of l.tuple ++ item_values Value l.at (p.0 + 1) (item_view p.1)) l.yielded
