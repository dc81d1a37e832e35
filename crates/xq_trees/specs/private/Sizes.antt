-- The sizes of rows from their levels: below a node are those after it that are deeper.
use Rattle.std.specs.Prelude.{ℕ, nat_lt, ◌≡◌, List, [], ◌∷◌, map}
use Rattle.std.specs.List.{prefix_len}
use Rattle.xq_trees.specs.Levels.{flat_row}
use Rattle.xq_trees.specs.declared.NodeRow.{NodeRow}

-- how many rows at the front are deeper than the level
abbrev pub deeper : ℕ → List NodeRow → ℕ
deeper level rs = prefix_len (λ q. nat_lt level q.0) (map flat_row rs)

-- each row's size is how many of the rows after it are deeper
abbrev pub IsSized : List NodeRow → Type 0
IsSized [] = Unit {0}
IsSized (r ∷ rs) = (r.size ≡ deeper r.level rs) × IsSized rs

abbrev pub level_of : NodeRow → ℕ
level_of r = r.level
