use Rattle.std.proofs.Common.{◌≡◌, List, map, length, vec_len}
use Rattle.std.specs.List.{range_with_len}
use Rattle.xq_trees.specs.Items.{ItemView}
use Rattle.xq_trees.specs.Tuples.{Tuple}
use Rattle.xq_tuples.specs.private.Groups.{Gathers, keyed_of}
use Rattle.xq_tuples.proofs.groups.gather.Given as goal

abbrev pub invariant-loop-number : goal.invariant-loop-number
invariant-loop-number l = record {
  gathers : (stream : List (Tuple ItemView)) → Gathers l.columns stream (map (keyed_of l.columns stream) (range_with_len 0 l.number)) l.seen.keys l.groups.items;
  long : length l.seen.keys ≡ vec_len l.groups;
}
