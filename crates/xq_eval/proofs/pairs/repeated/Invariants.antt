use Rattle.std.proofs.Common.{◌≡◌, length, map, replicate}
use Rattle.xq_trees.specs.Items.{item_view}
use Rattle.xq_operators.specs.Views.{lists_of}
use Rattle.xq_eval.proofs.pairs.repeated.Given as goal

abbrev pub invariant-loop-index : goal.invariant-loop-index
invariant-loop-index l = record {
  lists : lists_of l.lists ≡ replicate l._index (map item_view l.items);
  long : length l.lists.items ≡ l._index;
}
