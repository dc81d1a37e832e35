use Rattle.std.proofs.Common.{◌≡◌, map, take}
use Rattle.xq_optimise.specs.private.Joins.{scan_step}
use Rattle.xq_optimise.proofs.joins.scans_of.Given as goal

abbrev pub invariant-loop-step : goal.invariant-loop-step
invariant-loop-step l = take l.step-index l.steps ≡ map scan_step l.scans
