-- Rows as they are lent.
use Rattle.std.specs.Prelude.{ℕ, ◌-◌, List, map, take, drop, slice_index_or}
use Rattle.std.specs.List.{enumerate_from}
use Rattle.xq_trees.specs.Rows.{Row, no_row}
use Rattle.xq_sources.specs.declared.lent.LentRow.{LentRow}

-- a row that is lent, without its place
abbrev pub row_lent : LentRow → Row
row_lent r = record {
  size = r.size;
  level = r.level;
  label = record { kind = r.kind; name = r.texts.name; value = r.texts.value };
}

-- a row that is lent, with its place
abbrev pub placed_lent : LentRow → ℕ × Row
placed_lent r = (r.pre, row_lent r)

-- the row at a place among rows with their places
abbrev pub lent_at : List (ℕ × Row) → ℕ → ℕ × Row
lent_at rows at = slice_index_or rows at (0, no_row)

-- rows without their places
abbrev pub unplaced : List (ℕ × Row) → List Row
unplaced rows = map (λ p. p.1) rows

-- the rows from one place to before another, with their places
abbrev pub placed_between : List Row → ℕ → ℕ → List (ℕ × Row)
placed_between rows low high = take (high - low) (drop low (enumerate_from 0 rows))
