-- The subtrees of a tree.
use Rattle.std.specs.Prelude.{ℕ, List}
use Rattle.xq_trees.specs.Tree.{Tree, IsTree, nodes}
use Rattle.xq_trees.specs.Node.{HasPath, subtree}

-- a node of a tree, with all that is below it, is a tree
abbrev pub SubtreesAreTrees : Type 0
SubtreesAreTrees = (t : Tree) (path : List ℕ) → IsTree t → HasPath (nodes t) path
    → IsTree (subtree t path)
