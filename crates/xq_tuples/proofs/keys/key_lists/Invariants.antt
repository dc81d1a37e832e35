use Rattle.std.proofs.Common.{◌≡◌, map}
use Rattle.xq_tuples.specs.Keys.{column_of, rows_in}
use Rattle.xq_tuples.proofs.keys.key_lists.Given as goal

abbrev pub invariant-loop-column : goal.invariant-loop-column
invariant-loop-column l = rows_in l.keys ≡ map column_of l.yielded
