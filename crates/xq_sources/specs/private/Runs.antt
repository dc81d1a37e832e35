-- What fragments lend.
use Rattle.std.specs.Prelude.{ℕ, List, [], Option, Some, None}
use Rattle.xq_trees.specs.Tree.{Tree}
use Rattle.xq_trees.specs.Rows.{Row}
use Rattle.xq_sources.specs.Sources.{rows_between}

-- the rows of a tree from low to high, where there is a tree
abbrev pub rows_of_run : Option Tree → ℕ → ℕ → List (ℕ × Row)
rows_of_run None low high = []
rows_of_run (Some t) low high = rows_between t low high
