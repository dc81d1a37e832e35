use Rattle.std.proofs.Common.{◌≡◌, ◌+◌, ◌*◌, take}
use Prim.Native.Nat.{max}
use denote.Param.Weighed.{most}
use Rattle.xq_meaning.specs.declared.operators.Operator.{Operator}
use Rattle.xq_meaning.specs.declared.plans.Plan.{Plan, size-Plan}
use Rattle.xq_meaning.specs.declared.plans.PlanStep.{size-PlanStep}
use Rattle.xq_optimise.proofs.copies.+copies.Given as goal

abbrev pub invariant-all_copied-loop-part : goal.invariant-all_copied-loop-part
invariant-all_copied-loop-part l = l.copies ≡ take l.part-index l.parts

abbrev pub invariant-operands_copied-loop-operator : goal.invariant-operands_copied-loop-operator
invariant-operands_copied-loop-operator l = l.copies ≡ take l.operator-index l.operands

abbrev pub invariant-steps_copied-loop-step : goal.invariant-steps_copied-loop-step
invariant-steps_copied-loop-step l = l.copies ≡ take l.step-index l.steps

-- # Measures: at one depth a function calls those of lower rank

abbrev pub decreases-copied : goal.decreases-copied
decreases-copied a = 4 * goal.size-copied a

abbrev pub decreases-chain_copied : goal.decreases-chain_copied
decreases-chain_copied a = 4 * max (size-Plan a.first.now) (most (λ (o : Operator × Plan). size-Plan o.1) a.rest.now) + 3

abbrev pub decreases-path_copied : goal.decreases-path_copied
decreases-path_copied a = 4 * max (size-Plan a.start.now) (most size-PlanStep a.steps.now) + 3

abbrev pub decreases-filter_copied : goal.decreases-filter_copied
decreases-filter_copied a = 4 * max (size-Plan a.start.now) (most size-Plan a.predicates.now) + 3

abbrev pub decreases-step_copied : goal.decreases-step_copied
decreases-step_copied a = 4 * goal.size-step_copied a + 3

abbrev pub decreases-all_copied : goal.decreases-all_copied
decreases-all_copied a = 4 * goal.size-all_copied a + 2

abbrev pub decreases-operands_copied : goal.decreases-operands_copied
decreases-operands_copied a = 4 * goal.size-operands_copied a + 2

abbrev pub decreases-steps_copied : goal.decreases-steps_copied
decreases-steps_copied a = 4 * goal.size-steps_copied a + 2

abbrev pub decreases-slash_copied : goal.decreases-slash_copied
decreases-slash_copied a = 4 * goal.size-slash_copied a + 1
