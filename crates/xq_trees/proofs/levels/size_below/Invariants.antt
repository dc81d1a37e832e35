use Rattle.std.proofs.Common.{◌≡◌, ◌+◌, ◌-◌, ◌<◌, ◌≤◌, length, drop}
use Rattle.xq_trees.specs.Levels.{count_deeper}
use Rattle.xq_trees.proofs.levels.size_below.Given as goal

abbrev pub invariant-loop-next : goal.invariant-loop-next
invariant-loop-next g l = record {
  after : l.at < l.next;
  within : l.next ≤ length (g.R.TreeRows.listed l.rows);
  same : (l.next - (l.at + 1)) + count_deeper l.level (drop l.next (g.R.TreeRows.listed l.rows)) ≡ count_deeper l.level (drop (l.at + 1) (g.R.TreeRows.listed l.rows));
}

abbrev pub decreases-loop-next : goal.decreases-loop-next
decreases-loop-next g l = length (g.R.TreeRows.listed l.rows) - l.next
