use Rattle.std.proofs.Common.{◌≡◌, [], replicate}
use Rattle.xq_tuples.specs.Keys.{rows_in}
use Rattle.xq_tuples.proofs.keys.empty_columns.Given as goal

abbrev pub invariant-loop : goal.invariant-loop
invariant-loop l = rows_in l.columns ≡ replicate l.counter []
