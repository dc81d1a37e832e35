use Rattle.std.proofs.Common.{◌≡◌, map, true}
use Rattle.std.specs.List.{list_all}
use Rattle.xq_trees.specs.Tuples.{can_order, sort_keys}
use Rattle.xq_tuples.specs.Keys.{row_of}
use Rattle.xq_tuples.specs.private.Groups.{compared_of}
use Rattle.xq_tuples.proofs.order.sort_columns.Given as goal

abbrev pub invariant-loop-column : goal.invariant-loop-column
invariant-loop-column l = record {
  can_order : list_all can_order (map row_of l.yielded) ≡ true;
  keys : map compared_of l.keys.items ≡ map sort_keys (map row_of l.yielded);
}
