use Rattle.std.proofs.Common.{◌≡◌, [], take, slice_index_or}
use Rattle.std.specs.List.{flat_map}
use Rattle.xq_tuples.specs.Views.{values_of}
use Rattle.xq_tuples.proofs.streams.Tuples.arranged.Given as goal

abbrev pub invariant-loop-number : goal.invariant-loop-number
invariant-loop-number l = values_of l.slots.items ≡ flat_map (λ number. slice_index_or l.self number []) (take l.number-index l.numbers)
