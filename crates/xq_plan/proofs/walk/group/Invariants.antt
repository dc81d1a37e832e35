use Rattle.std.proofs.Common.{◌≡◌, take, drop, Ok}
use Rattle.xq_meaning.specs.Arguments.{each}
use Rattle.xq_meaning.specs.Meaning.{slot_of}
use Rattle.xq_plan.proofs.walk.group.Given as goal

abbrev pub invariant-loop-variable : goal.invariant-loop-variable
invariant-loop-variable l =
    each (slot_of (drop l.start l.scope)) (take l.variable-index l.variables) ≡ Ok l.slots
