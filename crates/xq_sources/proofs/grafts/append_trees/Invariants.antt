use Rattle.std.proofs.Common.{◌≡◌, ◌++◌, List, map, take}
use Rattle.xq_trees.specs.Items.{item_view}
use Rattle.xq_trees.specs.Rows.{Row}
use Rattle.xq_trees.specs.Tree.{Label}
use Rattle.xq_sources.specs.private.Planted.{trees_after, ArePlanted}
use Rattle.xq_sources.proofs.Meets.{MeetSoFar}
use Rattle.xq_sources.proofs.grafts.append_trees.Given as goal

-- the trees of the items so far have met
abbrev pub invariant-loop-item : goal.invariant-loop-item
invariant-loop-item l = record {
  met : (front more : List Row) (label : Label) → label.kind ≡ l.root → l.fn.rows.rows ≡ front ++ more → ArePlanted front 0 l.ends → MeetSoFar l.first label (map item_view (take l.item-index l.items)) (trees_after front 0 l.ends) l.fn.rows.rows l.rows.rows l.last;
  after : (more : List Row) × (l.rows.rows ≡ l.fn.rows.rows ++ more);
}
