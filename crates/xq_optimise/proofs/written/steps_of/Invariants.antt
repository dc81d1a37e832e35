use Rattle.std.proofs.Common.{◌≡◌, ◌++◌, map, reverse, length}
use Rattle.xq_optimise.specs.private.Joins.{scan_step}
use Rattle.xq_optimise.proofs.written.steps_of.Given as goal

abbrev pub invariant-loop-axis : goal.invariant-loop-axis
invariant-loop-axis l = l.steps ++ map scan_step (reverse l.left.items) ≡ map scan_step l.fn.scans

abbrev pub decreases-loop-axis : goal.decreases-loop-axis
decreases-loop-axis l = length l.left.items
