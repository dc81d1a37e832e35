use Rattle.std.proofs.Common.{◌≡◌}
use Rattle.xq_tuples.specs.Keys.{row_of, rows_in, by_specification, by_tuple}
use Rattle.xq_tuples.specs.private.Columns.{left_of, after_tuples}
use Rattle.xq_tuples.proofs.keys.dealt.Given as goal

abbrev pub invariant-loop : goal.invariant-loop
invariant-loop l = record {
  columns : rows_in l.columns ≡ by_specification l.count (by_tuple l.counter l.count (row_of l.fn.keys));
  left : left_of l.left ≡ after_tuples l.counter l.count (row_of l.fn.keys);
}
