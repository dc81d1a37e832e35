-- Nodes of trees in which each has the content that its kind may have.
use Rattle.std.specs.Prelude.{◌<◌, List, length, IsTrue}
use Rattle.std.specs.List.{AllByRecursion}
use Rattle.xq_trees.specs.Forest.{EachNode}
use Rattle.xq_trees.specs.Node.{HasPath}
use Rattle.xq_trees.specs.Tree.{Tree, IsTree, is_content}
use Rattle.xq_trees.specs.declared.items.Node.{Node}
use Rattle.xq_sources.specs.Sources.{tree_at}
use Rattle.xq_meaning.specs.Items.{Place, nodes_at}

-- the node is one of such a tree
pub record Stands (trees : List Tree) (p : Place) : Type 0 where
  pub tree : p.tree < length trees
  pub path : HasPath (nodes_at trees p.tree) p.path
  pub content : EachNode (λ a below. IsTrue (is_content a below)) (nodes_at trees p.tree)

-- the trees of the nodes are trees
abbrev pub AreOfTrees : List Tree → List Node → Type 0
AreOfTrees trees ns = AllByRecursion (λ n. IsTree (tree_at trees n.tree)) ns
