use Rattle.std.proofs.Common.{take}
use Rattle.std.specs.List.{AllByRecursion}
use Rattle.xq_optimise.specs.private.Parts.{IsScan}
use Rattle.xq_optimise.proofs.kinds.are_scans.Given as goal

abbrev pub invariant-loop-step : goal.invariant-loop-step
invariant-loop-step l = AllByRecursion IsScan (take l.step-index l.steps)
