-- Packed rows that are those of a tree.
use Rattle.std.specs.Prelude.{◌≡◌, List, map}
use Rattle.xq_trees.specs.Tree.{Tree, IsTree}
use Rattle.xq_trees.specs.Rows.{Row, rows}
use Rattle.xq_trees.specs.Levels.{flat}
use Rattle.xq_packed.specs.Packed.{Packed}

-- the rows are those of the tree
pub record Packs (p : Packed) (t : Tree) : Type 0 where
  pub is_tree : IsTree t
  pub rows : p.rows ≡ rows t

-- the rows have the levels and the labels of the nodes of the tree
abbrev pub AreLevels : List Row → Tree → Type 0
AreLevels rs t = map flat rs ≡ map flat (rows t)
