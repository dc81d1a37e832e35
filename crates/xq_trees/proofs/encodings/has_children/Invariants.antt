use Rattle.std.proofs.Common.{suc, ◌-◌, ◌≡◌, ◌≤◌, drop}
use Rattle.xq_trees.specs.Rows.{row_at}
use Rattle.xq_trees.specs.private.Checks.{IsChecked, roots, is_run}
use Rattle.xq_trees.proofs.encodings.has_children.Given as goal

abbrev pub invariant-loop-at : goal.invariant-loop-at
invariant-loop-at g l = record {
  within : l.at ≤ l.stop;
  checked : IsChecked (drop l.at (g.R.TreeRows.listed l.rows));
  same : is_run (row_at (g.R.TreeRows.listed l.rows) l.parent) (row_at (g.R.TreeRows.listed l.rows) l.parent).size (roots (g.R.TreeRows.listed l.rows) (suc l.parent) l.stop) ≡ is_run (row_at (g.R.TreeRows.listed l.rows) l.parent) (l.stop - l.at) (roots (g.R.TreeRows.listed l.rows) l.at l.stop);
}

abbrev pub decreases-loop-at : goal.decreases-loop-at
decreases-loop-at g l = l.stop - l.at
