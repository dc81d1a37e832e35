use Rattle.std.proofs.Common.{◌+◌, ◌-◌, ◌≤◌, ℕ, length}
use Rattle.xq_trees.specs.Tree.{Tree}
use Rattle.xq_axes.specs.Reads.{Span, span_end, AreRowsIn}
use Rattle.xq_axes.proofs.walks.visit_all.Given as goal

-- the rows so far were visited or passed over
abbrev pub invariant-loop-passed : goal.invariant-loop-passed
invariant-loop-passed g l =
    (start : g.row.V.Denot) (t : Tree) (s : Span) (n : ℕ) → s.high ≤ 4294967295 → AreRowsIn t s n l.rows → n + length l.rows ≤ span_end t s
    → g.V.Visitor.has_read start l.initial.visitor t s n → (n + l.passed ≤ span_end t s) × g.V.Visitor.has_read start l.visitor t s (n + l.passed)

abbrev pub decreases-loop-passed : goal.decreases-loop-passed
decreases-loop-passed g l = l.count - l.passed
