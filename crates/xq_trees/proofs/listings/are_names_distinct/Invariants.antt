use Rattle.std.proofs.Common.{ℕ, ◌≡◌, ◌<◌, map}
use Rattle.xq_trees.specs.Rows.{row_of}
use Rattle.xq_trees.specs.private.Checks.{IsNamedAt}
use Rattle.xq_trees.proofs.listings.are_names_distinct.Given as goal

abbrev pub invariant-loop-at : goal.invariant-loop-at
invariant-loop-at l = (l.rows ≡ l.fn.rows) × ((i : ℕ) → i < l.at → IsNamedAt (map row_of l.fn.rows) i)
