use Rattle.std.proofs.Common.{◌≤◌}
use Rattle.xq_packed.specs.Packed.{AreSame}
use Rattle.xq_packed.proofs.PackedRows.same_until.Given as goal

-- the rows so far are the same
abbrev pub invariant-loop-at : goal.invariant-loop-at
invariant-loop-at l = record {
  after : l.low ≤ l.at;
  same : AreSame l.self.rows l.other.rows l.low l.at;
}
