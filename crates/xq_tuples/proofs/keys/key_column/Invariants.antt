use Rattle.std.proofs.Common.{◌≡◌, map, true}
use Rattle.std.specs.List.{list_all}
use Rattle.xq_trees.specs.Tuples.{is_key, key_value}
use Rattle.xq_tuples.specs.Keys.{values_in}
use Rattle.xq_tuples.specs.private.KeyRows.{keys_of}
use Rattle.xq_tuples.proofs.keys.key_column.Given as goal

abbrev pub invariant-loop-values : goal.invariant-loop-values
invariant-loop-values l = record {
  are_keys : list_all is_key (map values_in l.yielded) ≡ true;
  keys : keys_of l.keys ≡ map key_value (map values_in l.yielded);
}
