use Rattle.std.proofs.Common.{◌≡◌, map}
use Rattle.xq_tuples.specs.Keys.{row_of, rows_in, by_specification}
use Rattle.xq_tuples.proofs.keys.turned.Given as goal

abbrev pub invariant-loop-row : goal.invariant-loop-row
invariant-loop-row l = rows_in l.columns ≡ by_specification l.count (map row_of l.yielded)
