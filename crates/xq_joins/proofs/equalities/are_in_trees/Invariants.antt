use Rattle.std.proofs.Common.{◌≡◌, map, take}
use Rattle.std.specs.List.{AllByRecursion}
use Rattle.xq_trees.specs.Items.{item_view}
use Rattle.xq_joins.specs.Equalities.{IsNodeOf, IsTreeAt}
use Rattle.xq_joins.proofs.equalities.are_in_trees.Given as goal

-- the items so far are nodes of trees, and the last tree is one
abbrev pub invariant-loop-item : goal.invariant-loop-item
invariant-loop-item g l =
    let old = g.L.TreeSource.forest l.fn.source in
    let clean = g.L.TreeSource.is_clean l.source in
    record {
      keeps : g.L.TreeSource.forest l.source ≡ old;
      was_clean : clean → g.L.TreeSource.is_clean l.fn.source;
      last : clean → IsTreeAt old l.tree;
      so_far : clean → AllByRecursion (IsNodeOf (IsTreeAt old)) (map item_view (take l.item-index l.items));
    }
