-- Where rows lie that are lent.
use Rattle.std.specs.Prelude.{ℕ, ◌+◌, ◌^◌, ◌<◌, ◌≤◌, List, drop, length, map, string_bytes}
use Rattle.xq_trees.specs.Rows.{Row, placed}
use Rattle.xq_sources.specs.Lent.{placed_between}
use Rattle.xq_sources.specs.declared.lent.Form.{Form}
use Rattle.xq_sources.specs.declared.lent.Form.TheVariants.{Listed, Packed}
use Rattle.xq_sources.specs.declared.lent.TextsForm.{TextsForm}
use Rattle.xq_sources.specs.declared.lent.TextsForm.TheVariants.{Listed as ListedTexts, Packed as PackedTexts}
use Rattle.xq_sources.specs.Texts.{Texts}

-- the name and the value of a row
abbrev pub texts_of_form : TextsForm → Texts
texts_of_form (ListedTexts row) =
    record { name = string_bytes row.now.name; value = string_bytes row.now.value }
texts_of_form (PackedTexts row) =
    record { name = row.row.label.name; value = row.row.label.value }

-- the rows, with their places
abbrev pub rows_of_form : Form → List (ℕ × Row)
rows_of_form (Listed rows) = map placed rows.now
rows_of_form (Packed rows base low high) = placed_between (drop base rows.now.rows) low high

-- after the base there are rows from one place to before another, whose places have four bytes
pub record AreThere (rows : List Row) (base low high : ℕ) : Type 0 where
  pub rises : low ≤ high
  pub within : base + high ≤ length rows
  pub room : base + high < 2 ^ 32

-- the rows are there
abbrev pub IsForm : Form → Type 0
IsForm (Listed rows) = Unit {0}
IsForm (Packed rows base low high) = AreThere rows.now.rows base low high
