use Rattle.std.proofs.Common.{◌≡◌, map, take, length}
use Rattle.xq_trees.specs.Rows.{row_of, AreNumbered}
use Rattle.xq_packed.proofs.lists.listed.Given as goal

abbrev pub invariant-loop-at : goal.invariant-loop-at
invariant-loop-at l = record {
  rows : map row_of l.list.items ≡ take l.at l.rows.rows;
  places : AreNumbered 0 l.list.items;
  long : length l.list.items ≡ l.at;
}
