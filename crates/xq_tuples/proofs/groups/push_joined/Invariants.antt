use Rattle.std.proofs.Common.{◌≡◌, ◌++◌, map}
use Rattle.std.specs.List.{range_with_len}
use Rattle.xq_trees.specs.Tuples.{grouped_value, slot_key}
use Rattle.xq_trees.specs.Items.{Value}
use Rattle.xq_tuples.specs.Views.{values_of}
use Rattle.xq_tuples.specs.private.KeyRows.{keys_at}
use Rattle.xq_tuples.specs.private.Groups.{keyed_of}
use Rattle.xq_tuples.proofs.groups.push_joined.Given as goal

abbrev pub invariant-loop-slot : goal.invariant-loop-slot
invariant-loop-slot l = values_of l.joined.items ≡ values_of l.fn.joined.items ++ map (λ slot. grouped_value Value (slot_key l.slots (keys_at l.first l.columns) slot) slot (map (keyed_of l.columns l.stream) l.group)) (range_with_len 0 l.slot)
