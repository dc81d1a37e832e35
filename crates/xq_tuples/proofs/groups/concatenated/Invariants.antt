use Rattle.std.proofs.Common.{◌≡◌, [], take, slice_index_or}
use Rattle.std.specs.List.{flat_map}
use Rattle.xq_trees.specs.Tuples.{value_at}
use Rattle.xq_trees.specs.Items.{item_views}
use Rattle.xq_tuples.proofs.groups.concatenated.Given as goal

abbrev pub invariant-loop-number : goal.invariant-loop-number
invariant-loop-number l = item_views l.value ≡ flat_map (λ number. value_at l.slot (slice_index_or l.stream number [])) (take l.number-index l.group)
