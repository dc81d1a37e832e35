use Rattle.std.proofs.Common.{length}
use Rattle.xq_optimise.proofs.WholePaths.{PathLeft}
use Rattle.xq_optimise.proofs.scanned.path.Given as goal

abbrev pub invariant-loop-step : goal.invariant-loop-step
invariant-loop-step l = PathLeft l.known l.fn.start l.fn.steps l.left.items l.path.start l.path.steps

abbrev pub decreases-loop-step : goal.decreases-loop-step
decreases-loop-step l = length l.left.items
