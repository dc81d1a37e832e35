use Rattle.std.proofs.Common.{◌+◌, ◌*◌}
use Rattle.xq_plan.specs.private.Plans.{IsNextCall, IsOperand, IsKey}
use Rattle.xq_plan.proofs.Walks.{AllLeft, RangesLeft, ClausesLeft}
use Rattle.xq_plan.proofs.Shapes.{IsPart, IsStepOrScan}
use Rattle.xq_plan.proofs.walk.+walk.Given as goal

abbrev pub invariant-expressions-loop-core : goal.invariant-expressions-loop-core
invariant-expressions-loop-core l = AllLeft IsPart l.cores l.core-index l.fn.scope l.scope l.found

abbrev pub invariant-calls-loop-function : goal.invariant-calls-loop-function
invariant-calls-loop-function l =
    AllLeft IsNextCall l.list l.function-index l.fn.scope l.scope l.found

abbrev pub invariant-operands-loop-operator : goal.invariant-operands-loop-operator
invariant-operands-loop-operator l =
    AllLeft IsOperand l.list l.operator-index l.fn.scope l.scope l.found

abbrev pub invariant-steps-loop-part : goal.invariant-steps-loop-part
invariant-steps-loop-part l = AllLeft IsStepOrScan l.parts l.part-index l.fn.scope l.scope l.found

abbrev pub invariant-keys-loop-key : goal.invariant-keys-loop-key
invariant-keys-loop-key l = AllLeft IsKey l.specs l.key-index l.fn.scope l.scope l.found

abbrev pub invariant-ranges-loop-variable : goal.invariant-ranges-loop-variable
invariant-ranges-loop-variable l =
    RangesLeft l.bindings l.variable-index l.fn.scope l.scope l.found

abbrev pub invariant-clauses-loop-next : goal.invariant-clauses-loop-next
invariant-clauses-loop-next l =
    ClausesLeft l.list l.start l.next-index l.fn.scope l.scope l.found

-- # Measures: at one depth a function calls those of lower rank

abbrev pub decreases-expression : goal.decreases-expression
decreases-expression a = 3 * goal.size-expression a

abbrev pub decreases-boxed : goal.decreases-boxed
decreases-boxed a = 3 * goal.size-boxed a + 1

abbrev pub decreases-expressions : goal.decreases-expressions
decreases-expressions a = 3 * goal.size-expressions a + 1

abbrev pub decreases-calls : goal.decreases-calls
decreases-calls a = 3 * goal.size-calls a + 2

abbrev pub decreases-operands : goal.decreases-operands
decreases-operands a = 3 * goal.size-operands a + 1

abbrev pub decreases-steps : goal.decreases-steps
decreases-steps a = 3 * goal.size-steps a + 1

abbrev pub decreases-ranges : goal.decreases-ranges
decreases-ranges a = 3 * goal.size-ranges a + 1

abbrev pub decreases-clauses : goal.decreases-clauses
decreases-clauses a = 3 * goal.size-clauses a + 1

abbrev pub decreases-clause : goal.decreases-clause
decreases-clause a = 3 * goal.size-clause a

abbrev pub decreases-range : goal.decreases-range
decreases-range a = 3 * goal.size-range a + 1

abbrev pub decreases-assignment : goal.decreases-assignment
decreases-assignment a = 3 * goal.size-assignment a + 1

abbrev pub decreases-keys : goal.decreases-keys
decreases-keys a = 3 * goal.size-keys a + 1
