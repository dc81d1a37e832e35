use Rattle.std.proofs.Common.{ℕ, ◌<◌}
use Rattle.xq_trees.specs.private.Checks.{IsNamedAt}
use Rattle.xq_trees.proofs.encodings.are_names_distinct.Given as goal

abbrev pub invariant-loop-at : goal.invariant-loop-at
invariant-loop-at g l = (i : ℕ) → i < l.at → IsNamedAt (g.R.TreeRows.listed l.rows) i
