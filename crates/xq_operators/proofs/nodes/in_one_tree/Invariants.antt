use Rattle.std.proofs.Common.{◌≡◌, map, take}
use Rattle.xq_axes.specs.Many.{spot}
use Rattle.xq_trees.specs.Items.{item_view}
use Rattle.xq_trees.specs.Rising.{AreRising}
use Rattle.xq_operators.specs.Runs.{views_of}
use Rattle.xq_operators.proofs.nodes.in_one_tree.Given as goal

-- the items so far are the nodes at the places, which rise
abbrev pub invariant-loop-item : goal.invariant-loop-item
invariant-loop-item l = record {
  are : map item_view (take l.item-index l.items) ≡ views_of l.first.tree l.places.items;
  rising : AreRising (map (spot l.first.tree) l.places.items);
}
