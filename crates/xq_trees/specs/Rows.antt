-- The rows of a tree: its nodes in document order, each with the number of nodes below it and its
-- level.
use Rattle.std.proofs.Common.{zero, suc}
use Rattle.std.specs.Prelude.{ℕ, ◌-◌, ◌≡◌, List, [], ◌∷◌, map, string_bytes, slice_index_or}
use Rattle.std.specs.List.{enumerate_from}
use Rattle.xq_trees.specs.Forest.{Forest, end, node, count, labels, map_forest}
use Rattle.xq_trees.specs.Tree.{Label, Tree, IsTree, nodes, no_label}
use Rattle.xq_trees.specs.declared.NodeRow.{NodeRow}

-- attributes count among the nodes below; the root has level 0; a row's place in the list is its
-- `pre`
pub record Row : Type 0 where
  pub size : ℕ
  pub level : ℕ
  pub label : Label

-- each node with its measures, where those at the top have this level
abbrev pub measured : ℕ → Forest Label → Forest Row
measured level end = end
measured level (node a below beside) =
    node (record { size = count below; level = level; label = a }) (measured (suc level) below)
    (measured level beside)

-- XDM 3.1, 2.4: the nodes of a tree in document order, with their sizes and levels
abbrev pub rows : Tree → List Row
rows t = labels (measured 0 (nodes t))

-- what stands for a row where there is none
abbrev pub no_row : Row
no_row = record { size = 0; level = 0; label = no_label }

-- the row at a place
abbrev pub row_at : List Row → ℕ → Row
row_at rs n = slice_index_or rs n no_row

-- the name in a row
abbrev pub row_name : Row → List ℕ
row_name r = r.label.name

-- the rows are those of the tree
pub record AreRowsOf (rs : List Row) (t : Tree) : Type 0 where
  pub is_tree : IsTree t
  pub rows : rs ≡ rows t

-- # The rows that code holds

-- a row that code holds, without its place
abbrev pub row_of : NodeRow → Row
row_of r = record {
  size = r.size;
  level = r.level;
  label =
      record { kind = r.kind; name = string_bytes r.name; value = string_bytes r.value };
}

-- the rows are numbered from n on
abbrev pub AreNumbered : ℕ → List NodeRow → Type 0
AreNumbered n [] = Unit {0}
AreNumbered n (r ∷ rs) = (r.pre ≡ n) × AreNumbered (suc n) rs

-- the rows are those of the tree
pub record Encodes (rs : List NodeRow) (t : Tree) : Type 0 where
  pub is_tree : IsTree t
  pub rows : map row_of rs ≡ rows t
  pub numbered : AreNumbered 0 rs

-- the rows are those of some tree
abbrev pub IsEncoding : List NodeRow → Type 0
IsEncoding rs = (t : Tree) × Encodes rs t

-- a row with its place
abbrev pub placed : NodeRow → ℕ × Row
placed r = (r.pre, row_of r)

-- the rows of a tree with their places
abbrev pub placed_rows : Tree → List (ℕ × Row)
placed_rows t = enumerate_from 0 (rows t)

-- # The tree that rows are of

-- the first nodes at the top that have n nodes together, and those to their right
abbrev pub front : {A : Type 0} → ℕ → Forest A → Forest A
front zero f = end
front (suc n) end = end
front (suc n) (node a below beside) = node a below (front (n - count below) beside)

-- the nodes at the top that are to the right of `front`
abbrev pub back : {A : Type 0} → ℕ → Forest A → Forest A
back zero f = f
back (suc n) end = end
back (suc n) (node a below beside) = back (n - count below) beside

-- each row takes as many of the nodes after it as its size says
abbrev pub nest : List Row → Forest Row
nest [] = end
nest (row ∷ rows) = node row (front row.size (nest rows)) (back row.size (nest rows))

-- the first of the nodes, where there is one
abbrev pub first_tree : Forest Row → Tree
first_tree end = record { root = no_label; below = end }
first_tree (node row below beside) =
    record { root = row.label; below = map_forest (λ r. r.label) below }

-- the tree that has these rows, where there is one
abbrev pub tree_of : List Row → Tree
tree_of rows = first_tree (nest rows)
