-- Trees side by side, and the tree that they are below a root.
use Rattle.std.specs.Prelude.{◌+◌, ◌<◌, List, [], ◌∷◌, ◌++◌, map, All, IsTrue}
use Rattle.std.specs.List.{AllByRecursion, IsDistinct}
use Rattle.std.specs.Str.{bytes_eq}
use Rattle.xq_trees.specs.Forest.{Forest, end, count, join}
use Rattle.xq_trees.specs.Tree.{Label, Tree, IsText, IsTree, nodes, is_content, is_legal, attribute_names, most_levels, most_nodes}
use Rattle.xq_trees.specs.Rows.{Row, rows, AreRowsOf}

-- the nodes of the trees, each tree to the right of those before it
abbrev pub beside : List Tree → Forest Label
beside [] = end
beside (t ∷ ts) = join (nodes t) (beside ts)

-- the root, and the trees below it
abbrev pub rooted : Label → List Tree → Tree
rooted root ts = record { root = root; below = beside ts }

abbrev pub root_of : Tree → Label
root_of t = t.root

-- a row one level further down
abbrev pub lowered : Row → Row
lowered r = record { size = r.size; level = r.level + 1; label = r.label }

-- the rows of the trees, those of a tree after those of the trees before it, each one level further
-- down
abbrev pub lowered_rows : List Tree → List Row
lowered_rows [] = []
lowered_rows (t ∷ ts) = map lowered (rows t) ++ lowered_rows ts

-- the row of a root with the trees below it
abbrev pub root_row : Label → List Tree → Row
root_row root ts = record { size = count (beside ts); level = 0; label = root }

-- a tree that may stand below a root: no node of it is on the last level
pub record IsLow (t : Tree) : Type 0 where
  pub is_tree : IsTree t
  pub levels : All (λ (r : Row). r.level + 1 < most_levels) (rows t)

-- the trees may stand below the root: what has to hold where they meet it and one another
pub record MayMeet (root : Label) (ts : List Tree) : Type 0 where
  pub text : IsText root
  pub legal : IsTrue (is_legal root.kind root.name root.value)
  pub content : IsTrue (is_content root (map root_of ts))
  pub names : IsDistinct bytes_eq (attribute_names (map root_of ts))
  pub trees : AllByRecursion IsLow ts
  pub room : count (beside ts) < most_nodes

-- trees that may meet below a root make a tree with it, whose rows are the root's and theirs
abbrev pub RootsMakeTrees : Type 0
RootsMakeTrees = (root : Label) (ts : List Tree) → MayMeet root ts
    → AreRowsOf (root_row root ts ∷ lowered_rows ts) (rooted root ts)
