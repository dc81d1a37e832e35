use Rattle.std.proofs.Common.{◌≡◌, true, take}
use Rattle.xq_optimise.specs.private.Kinds.{EndsInNodes}
use Rattle.xq_optimise.proofs.kinds.end_in_step.Given as goal

abbrev pub invariant-loop-step : goal.invariant-loop-step
invariant-loop-step l = l.ends ≡ true → EndsInNodes (take l.step-index l.steps)
