-- A tree is told by the levels and the labels of its nodes in document order.
use Rattle.std.specs.Prelude.{◌≡◌, ℕ, nat_lt, List, [], ◌∷◌, map}
use Rattle.std.specs.List.{prefix_len}
use Rattle.xq_trees.specs.Tree.{Label, Tree}
use Rattle.xq_trees.specs.Rows.{Row, row_of, rows}
use Rattle.xq_trees.specs.declared.NodeRow.{NodeRow}

-- the level and the label of a row
abbrev pub flat : Row → ℕ × Label
flat r = (r.level, r.label)

-- the level and the label of a row that code holds
abbrev pub flat_row : NodeRow → ℕ × Label
flat_row r = flat (row_of r)

-- the rows have the levels and the labels of the nodes of the tree
abbrev pub HasLevels : Tree → List NodeRow → Type 0
HasLevels t rs = map flat_row rs ≡ map flat (rows t)

-- the rows with these levels and labels
abbrev pub sized : List (ℕ × Label) → List Row
sized [] = []
sized (p ∷ ps) = record { size = prefix_len (λ q. nat_lt p.0 q.0) ps; level = p.0; label = p.1 }
    ∷ sized ps

-- how many rows at the front are deeper than the level
abbrev pub count_deeper : ℕ → List Row → ℕ
count_deeper level rs = prefix_len (λ q. nat_lt level q.0) (map flat rs)

-- each row's size is how many of the rows after it are deeper
abbrev pub AreSized : List Row → Type 0
AreSized [] = Unit {0}
AreSized (r ∷ rs) = (r.size ≡ count_deeper r.level rs) × AreSized rs
