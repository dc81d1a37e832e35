-- Nodes by their levels and labels, in document order.
use Rattle.std.specs.Prelude.{ℕ, ◌-◌, ◌≡◌, List, map}
use Rattle.xq_trees.specs.Forest.{Forest, labels}
use Rattle.xq_trees.specs.Tree.{Label, Tree, IsTree}
use Rattle.xq_trees.specs.Rows.{Row, measured, rows, row_at, row_of}
use Rattle.xq_trees.specs.Levels.{flat}
use Rattle.xq_trees.specs.declared.NodeRow.{NodeRow}
use Rattle.xq_trees.specs.declared.items.Node.{Node}
use Rattle.xq_sources.specs.Sources.{rows_between, tree_at, HasNode}
use Rattle.xq_build.specs.declared.node_copies.NodeShape.{NodeShape}

abbrev pub Leaf : Type 0
Leaf = ℕ × Label

-- the node of a row with its place
abbrev pub leaf : ℕ × Row → Leaf
leaf p = flat p.1

-- the nodes, where those at the top have the level 0
abbrev pub leaves : Forest Label → List Leaf
leaves f = map flat (labels (measured 0 f))

-- a leaf so many levels further up
abbrev pub lowered : ℕ → Leaf → Leaf
lowered base p = (p.0 - base, p.1)

-- the leaves of a tree whose places lie between these, both included
abbrev pub leaves_between : Tree → ℕ → ℕ → List Leaf
leaves_between t low high = map leaf (rows_between t low high)

-- the row is that of the node
pub record IsRowOf (trees : List Tree) (node : Node) (row : NodeRow) : Type 0 where
  pub has_node : HasNode trees node.tree node.pre
  pub is_tree : IsTree (tree_at trees node.tree)
  pub is_row : row_of row ≡ row_at (rows (tree_at trees node.tree)) node.pre

-- the size, the level and the kind are those of the node's row
pub record IsShapeOf (trees : List Tree) (node : Node) (shape : NodeShape) : Type 0 where
  pub has_node : HasNode trees node.tree node.pre
  pub is_tree : IsTree (tree_at trees node.tree)
  pub size : shape.size ≡ (row_at (rows (tree_at trees node.tree)) node.pre).size
  pub level : shape.level ≡ (row_at (rows (tree_at trees node.tree)) node.pre).level
  pub kind : shape.kind ≡ (row_at (rows (tree_at trees node.tree)) node.pre).label.kind
