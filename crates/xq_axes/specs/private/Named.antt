-- Elements by their names.
use Rattle.std.specs.Prelude.{ℕ, ◌≡◌, ◌≤◌, List, Bool, ◌&&◌}
use Rattle.std.specs.List.{list_any}
use Rattle.xq_trees.specs.Tree.{Tree}
use Rattle.xq_trees.specs.Rows.{row_at, rows}
use Rattle.xq_trees.specs.RegionTests.{inside, one_below, plain_row}
use Rattle.xq_meaning.specs.declared.node_tests.Test.{Test}
use Rattle.xq_axes.specs.private.Hits.{row_passes}

-- from low to high those are wanted that are no attributes and pass the test
abbrev pub IsPlainTest : (ℕ → Bool) → Test → Tree → ℕ → ℕ → Type 0
IsPlainTest wanted test t low high = (p : ℕ) → low ≤ p → p ≤ high
    → wanted p ≡ (plain_row (rows t) p && row_passes test (row_at (rows t) p))

-- p is a child of one of the nodes, or an attribute
abbrev pub is_below_one : Tree → List ℕ → ℕ → Bool
is_below_one t vs p = list_any (λ v. inside (rows t) v p && one_below (rows t) v p) vs
