use Rattle.std.proofs.Common.{◌≤◌, length, drop}
use Rattle.xq_trees.specs.private.Checks.{IsChecked, AreTexts}
use Rattle.xq_trees.proofs.encodings.is_nested.Given as goal

abbrev pub invariant-loop-at : goal.invariant-loop-at
invariant-loop-at g l = record {
  within : l.at ≤ length (g.R.TreeRows.listed l.rows);
  checked : IsChecked (drop l.at (g.R.TreeRows.listed l.rows));
  texts : AreTexts (drop l.at (g.R.TreeRows.listed l.rows));
}

abbrev pub decreases-loop-at : goal.decreases-loop-at
decreases-loop-at g l = l.at
