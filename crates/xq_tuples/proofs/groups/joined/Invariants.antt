use Rattle.std.proofs.Common.{◌≡◌, take}
use Rattle.std.specs.List.{flat_map}
use Rattle.xq_trees.specs.Tuples.{grouped_tuple}
use Rattle.xq_trees.specs.Items.{Value}
use Rattle.xq_tuples.specs.Views.{values_of}
use Rattle.xq_tuples.specs.private.Groups.{group_of}
use Rattle.xq_tuples.proofs.groups.joined.Given as goal

abbrev pub invariant-loop-group : goal.invariant-loop-group
invariant-loop-group l = values_of l.joined.items ≡ flat_map (λ group. grouped_tuple Value l.slots (group_of l.columns l.stream group)) (take l.group-index l.groups)
