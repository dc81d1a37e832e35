use Rattle.std.proofs.Common.{◌≡◌, List, map, drop}
use Rattle.xq_atoms.specs.declared.refusals.Code.TheVariants.{XPTY0019}
use Rattle.xq_trees.specs.Tree.{Tree}
use Rattle.xq_trees.specs.Items.{item_view}
use Rattle.xq_meaning.specs.Arguments.{all_nodes}
use Rattle.xq_meaning.specs.Readings.{items_at}
use Rattle.xq_operators.specs.Views.{forget}
use Rattle.xq_operators.proofs.nodes.only_nodes.Given as goal

-- the items that are left decide
abbrev pub invariant-loop-item : goal.invariant-loop-item
invariant-loop-item l = (trees : List Tree) → forget (all_nodes XPTY0019 (items_at trees (map item_view l.items))) ≡ forget (all_nodes XPTY0019 (items_at trees (map item_view (drop l.item-index l.items))))
