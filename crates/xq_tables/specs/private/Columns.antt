-- The columns of a node in front of others, and which of them code can read.
use Rattle.std.specs.Prelude.{◌≡◌, ◌<◌, ◌^◌, ℕ, [], ◌∷◌, IsUtf8}
use Rattle.sqlite_value.specs.Order.{Row, column}
use Rattle.xq_trees.specs.Rows.{Row as NodeRow}
use Rattle.xq_tables.specs.Nodes.{cells}

-- the first six columns
abbrev pub node_of : Row → Row
node_of r = column r 0 ∷ column r 1 ∷ column r 2 ∷ column r 3 ∷ column r 4 ∷ column r 5 ∷ []

-- these columns are those of a node whose numbers and texts code can hold
abbrev pub IsReadable : Row → Type 0
IsReadable r = (p : ℕ × NodeRow) × (r ≡ cells p) × (p.0 < 2 ^ 32) × (p.1.size < 2 ^ 32)
    × (p.1.level < 2 ^ 32) × IsUtf8 p.1.label.name × IsUtf8 p.1.label.value
