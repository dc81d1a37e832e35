-- Rows that are moved or changed.
use Rattle.std.specs.Prelude.{ℕ, ◌+◌, ◌-◌, ◌<◌, List, [], ◌∷◌, ◌++◌, All, slice_set}
use Rattle.xq_trees.specs.Tree.{most_levels}
use Rattle.xq_trees.specs.Rows.{Row, row_at}

-- a row on the level to, where it was on the level from; others as far below or above as before
abbrev pub moved : ℕ → ℕ → Row → Row
moved from to r = record { size = r.size; level = r.level - from + to; label = r.label }

-- a tree may have rows on the levels to which these are moved
abbrev pub AreMovable : ℕ → ℕ → List Row → Type 0
AreMovable from to rows = All (λ (r : Row). r.level - from + to < most_levels) rows

-- a row whose value has more at its end
abbrev pub longer : List ℕ → Row → Row
longer more r =
    record {
      size = r.size;
      level = r.level;
      label = record { kind = r.label.kind; name = r.label.name; value = r.label.value ++ more };
    }

-- the rows, with more at the end of the last row's value
abbrev pub with_longer_last : List ℕ → List Row → List Row
with_longer_last more [] = []
with_longer_last more (r ∷ []) = longer more r ∷ []
with_longer_last more (r ∷ q ∷ rows) = r ∷ with_longer_last more (q ∷ rows)

-- a row with another size
abbrev pub resized : ℕ → Row → Row
resized size r = record { size = size; level = r.level; label = r.label }

-- the rows, where the one at a place has another size
abbrev pub with_size : ℕ → ℕ → List Row → List Row
with_size at size rows = slice_set rows at (resized size (row_at rows at))
