use Rattle.std.proofs.Common.{◌+◌, ◌*◌, take}
use Rattle.std.specs.List.{AllByRecursion}
use Rattle.xq_optimise.specs.private.Joins.{IsOutside, OperandOutside, StepOutside}
use Rattle.xq_optimise.proofs.outside.+outside.Given as goal

abbrev pub invariant-all_read_outside-loop-part : goal.invariant-all_read_outside-loop-part
invariant-all_read_outside-loop-part l = AllByRecursion (IsOutside l.outer) (take l.part-index l.parts)

abbrev pub invariant-operands_read_outside-loop-part : goal.invariant-operands_read_outside-loop-part
invariant-operands_read_outside-loop-part l = AllByRecursion (OperandOutside l.outer) (take l.part-index l.operands)

abbrev pub invariant-steps_read_outside-loop-step : goal.invariant-steps_read_outside-loop-step
invariant-steps_read_outside-loop-step l = AllByRecursion (StepOutside l.outer) (take l.step-index l.steps)

-- # Measures: at one depth a function calls those of lower rank

abbrev pub decreases-reads_outside : goal.decreases-reads_outside
decreases-reads_outside a = 3 * goal.size-reads_outside a

abbrev pub decreases-all_read_outside : goal.decreases-all_read_outside
decreases-all_read_outside a = 3 * goal.size-all_read_outside a + 1

abbrev pub decreases-operands_read_outside : goal.decreases-operands_read_outside
decreases-operands_read_outside a = 3 * goal.size-operands_read_outside a + 1

abbrev pub decreases-steps_read_outside : goal.decreases-steps_read_outside
decreases-steps_read_outside a = 3 * goal.size-steps_read_outside a + 1

abbrev pub decreases-step_reads_outside : goal.decreases-step_reads_outside
decreases-step_reads_outside a = 3 * goal.size-step_reads_outside a
