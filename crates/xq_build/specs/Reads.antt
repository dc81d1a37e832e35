-- How much is read to print items.
use Rattle.std.specs.Prelude.{ℕ, ◌+◌, ◌≤◌, List, sum_by}
use Rattle.xq_trees.specs.Forest.{count}
use Rattle.xq_trees.specs.Tree.{Tree}
use Rattle.xq_sources.specs.Meters.{Readings}
use Rattle.xq_meaning.specs.Items.{Item, Node, Atom, tree_below}

-- so many rows more were read by ranges at most, and so many more singly
pub record ReadsAtMost (before after : Readings) (ranged single : ℕ) : Type 0 where
  pub rows : after.rows ≤ before.rows + ranged
  pub singles : after.singles ≤ before.singles + single

-- how many rows are below an item: those of all nodes below a node; an atomic value has none
abbrev pub rows_below : List Tree → Item → ℕ
rows_below trees (Node p) = count (tree_below trees p).below
rows_below trees (Atom a) = 0

-- how many rows an item has itself
abbrev pub own_rows : Item → ℕ
own_rows (Node p) = 1
own_rows (Atom a) = 0

-- to print items, the rows below each are read by ranges, each once for it, and its own singly
abbrev pub ReadsItems : List Tree → List Item → Readings → Readings → Type 0
ReadsItems trees xs before after =
    ReadsAtMost before after (sum_by (rows_below trees) xs) (sum_by own_rows xs)
