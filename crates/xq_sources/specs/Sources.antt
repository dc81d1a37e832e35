-- What a source of rows gives, and what it counts.
use Rattle.std.specs.Prelude.{ℕ, ◌+◌, ◌<◌, Bool, List, filter, length, nat_lt, nat_le, ◌&&◌, Result, Ok, Err, slice_index_or, Vec, vec_len}
use Rattle.xq_trees.specs.Forest.{count, end}
use Rattle.xq_trees.specs.Tree.{Tree, no_label, nodes}
use Rattle.xq_trees.specs.Rows.{Row, placed_rows}
use Rattle.xq_trees.specs.declared.NodeRow.{NodeRow}
use Rattle.xq_sources.specs.Meters.{Readings, with_rows, with_singles}

-- # Trees and places

-- a document with nothing below it, for a number that no tree has
abbrev pub no_tree : Tree
no_tree = record { root = no_label; below = end }

-- the tree with this number, from 0
abbrev pub tree_at : List Tree → ℕ → Tree
tree_at trees n = slice_index_or trees n no_tree

-- there is a tree with this number
abbrev pub HasTree : List Tree → ℕ → Type 0
HasTree trees tree = tree < length trees

-- and a node with so many nodes before it
pub record HasNode (trees : List Tree) (tree pre : ℕ) : Type 0 where
  pub tree_in : HasTree trees tree
  pub node_in : pre < count (nodes (tree_at trees tree))

-- # Rows

-- a row with its place lies between these places, both included
abbrev pub is_between : ℕ → ℕ → ℕ × Row → Bool
is_between low high p = nat_le low p.0 && nat_le p.0 high

-- a row with its place is that of a node above v
abbrev pub encloses : ℕ → ℕ × Row → Bool
encloses v p = nat_lt p.0 v && nat_le v (p.0 + p.1.size)

-- the rows p with low ≤ p ≤ high, in document order
abbrev pub rows_between : Tree → ℕ → ℕ → List (ℕ × Row)
rows_between t low high = filter (is_between low high) (placed_rows t)

-- the rows p with p < v ≤ p + size, in document order: the root first, the parent of v last
abbrev pub rows_enclosing : Tree → ℕ → List (ℕ × Row)
rows_enclosing t v = filter (encloses v) (placed_rows t)

-- # Counting: each row that is given, and nothing where a call is refused

-- the rows of a range, counted as such
abbrev pub after_range : {Z E : Type 0} → Readings → Result (Vec NodeRow Z) E → Readings
after_range readings (Ok found) = with_rows readings (vec_len found)
after_range readings (Err want) = readings

-- the rows of the nodes above a node, each counted singly
abbrev pub after_enclosing : {Z E : Type 0} → Readings → Result (Vec NodeRow Z) E → Readings
after_enclosing readings (Ok found) = with_singles readings (vec_len found)
after_enclosing readings (Err want) = readings

-- one row, counted singly
abbrev pub after_row : {A E : Type 0} → Readings → Result A E → Readings
after_row readings (Ok row) = with_singles readings 1
after_row readings (Err want) = readings
