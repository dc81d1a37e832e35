use Rattle.std.proofs.Common.{◌-◌, ◌≡◌, ◌≤◌, ◌++◌, map, drop}
use Rattle.std.specs.Prelude.{slice_range}
use Rattle.xq_trees.specs.Rows.{row_name}
use Rattle.xq_trees.specs.private.Checks.{IsChecked}
use Rattle.xq_trees.proofs.AttributeRuns.{names_from, InFront}
use Rattle.xq_trees.proofs.encodings.attributes_end.Given as goal

-- the names up to here are those of the slice
abbrev pub invariant-loop-at : goal.invariant-loop-at
invariant-loop-at g l = record {
  after : l.fn.from ≤ l.at;
  before : l.at ≤ l.stop;
  checked : IsChecked (drop l.at (g.R.TreeRows.listed l.rows));
  in_front : InFront (g.R.TreeRows.listed l.rows) l.at l.stop;
  names : names_from (g.R.TreeRows.listed l.rows) l.fn.from l.stop ≡ map row_name (slice_range (g.R.TreeRows.listed l.rows) l.fn.from l.at) ++ names_from (g.R.TreeRows.listed l.rows) l.at l.stop;
}

abbrev pub decreases-loop-at : goal.decreases-loop-at
decreases-loop-at g l = l.stop - l.at
