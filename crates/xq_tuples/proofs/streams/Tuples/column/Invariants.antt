use Rattle.std.proofs.Common.{◌≡◌, map, take}
use Rattle.xq_trees.specs.Tuples.{value_at}
use Rattle.xq_trees.specs.Items.{item_views}
use Rattle.xq_tuples.proofs.streams.Tuples.column.Given as goal

abbrev pub invariant-loop-index : goal.invariant-loop-index
invariant-loop-index l = map item_views l.column.items ≡ map (λ t. value_at l.slot t) (take l.index l.self)
