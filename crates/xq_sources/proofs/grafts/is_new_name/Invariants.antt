use Rattle.std.proofs.Common.{◌≢◌, ◌≤◌, ◌<◌, ℕ}
use Rattle.xq_trees.specs.Rows.{row_at}
use Rattle.xq_sources.proofs.grafts.is_new_name.Given as goal

-- no row so far has the name
abbrev pub invariant-loop-at : goal.invariant-loop-at
invariant-loop-at l = (k : ℕ) → l.under ≤ k → k < l.at → (row_at l.rows.rows k).label.name ≢ l.name
