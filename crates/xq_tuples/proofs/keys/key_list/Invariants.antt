use Rattle.std.proofs.Common.{◌≡◌, map}
use Rattle.xq_tuples.specs.Keys.{atomics_of, row_of}
use Rattle.xq_tuples.proofs.keys.key_list.Given as goal

abbrev pub invariant-loop-atoms : goal.invariant-loop-atoms
invariant-loop-atoms l = row_of l.keys ≡ map atomics_of l.yielded
