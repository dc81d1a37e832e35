use Rattle.std.proofs.Common.{◌≡◌, map, true}
use Rattle.std.specs.List.{list_all}
use Rattle.xq_trees.specs.Tuples.{is_key, sort_keys}
use Rattle.xq_tuples.specs.Keys.{values_in}
use Rattle.xq_tuples.specs.private.Groups.{compared_of}
use Rattle.xq_tuples.proofs.keys.compared_column.Given as goal

abbrev pub invariant-loop-values : goal.invariant-loop-values
invariant-loop-values l = record {
  are_keys : list_all is_key (map values_in l.yielded) ≡ true;
  keys : compared_of l.keys ≡ sort_keys (map values_in l.yielded);
}
