use Rattle.std.proofs.Common.{◌≡◌, map, true}
use Rattle.xq_trees.specs.Tuples.{are_keys, key_value}
use Rattle.xq_tuples.specs.Keys.{row_of}
use Rattle.xq_tuples.specs.private.KeyRows.{keys_of}
use Rattle.xq_tuples.proofs.keys.key_columns.Given as goal

abbrev pub invariant-loop-column : goal.invariant-loop-column
invariant-loop-column l = record {
  are_keys : are_keys (map row_of l.yielded) ≡ true;
  keys : map keys_of l.keys.items ≡ map (map key_value) (map row_of l.yielded);
}
