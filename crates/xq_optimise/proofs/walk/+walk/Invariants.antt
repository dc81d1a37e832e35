use Rattle.std.proofs.Common.{◌+◌, ◌*◌, length}
use Prim.Native.Nat.{max}
use denote.Param.Weighed.{most}
use Rattle.xq_meaning.specs.declared.plans.Plan.{size-Plan}
use Rattle.xq_meaning.specs.declared.plans.PlanClause.{size-PlanClause}
use Rattle.xq_optimise.specs.Same.{GivesSame}
use Rattle.xq_optimise.specs.private.Parts.{SameOperand, SameCall, SameKey, SameStep}
use Rattle.xq_optimise.proofs.Loops.{EachLeft, RangesLeft, ClausesLeft}
use Rattle.xq_optimise.proofs.walk.+walk.Given as goal

abbrev pub invariant-expressions-loop-part : goal.invariant-expressions-loop-part
invariant-expressions-loop-part l = EachLeft GivesSame l.fn.list l.left l.fn.known.items l.known.items l.found.items

abbrev pub invariant-calls-loop-function : goal.invariant-calls-loop-function
invariant-calls-loop-function l = EachLeft SameCall l.fn.list l.left l.fn.known.items l.known.items l.found.items

abbrev pub invariant-operands-loop-operator : goal.invariant-operands-loop-operator
invariant-operands-loop-operator l = EachLeft SameOperand l.fn.list l.left l.fn.known.items l.known.items l.found.items

abbrev pub invariant-steps-loop-part : goal.invariant-steps-loop-part
invariant-steps-loop-part l = EachLeft SameStep l.fn.list l.left l.fn.known.items l.known.items l.found.items

abbrev pub invariant-keys-loop-key : goal.invariant-keys-loop-key
invariant-keys-loop-key l = EachLeft SameKey l.fn.list l.left l.fn.known.items l.known.items l.found.items

abbrev pub invariant-ranges-loop-range : goal.invariant-ranges-loop-range
invariant-ranges-loop-range l = RangesLeft l.fn.list l.left.items l.fn.known.items l.known.items l.found

abbrev pub invariant-clauses-loop-next : goal.invariant-clauses-loop-next
invariant-clauses-loop-next l = ClausesLeft l.fn.list l.left.items l.outer l.fn.known.items l.known.items l.found

-- # What is left

abbrev pub decreases-expressions-loop-part : goal.decreases-expressions-loop-part
decreases-expressions-loop-part l = length l.left

abbrev pub decreases-calls-loop-function : goal.decreases-calls-loop-function
decreases-calls-loop-function l = length l.left

abbrev pub decreases-operands-loop-operator : goal.decreases-operands-loop-operator
decreases-operands-loop-operator l = length l.left

abbrev pub decreases-steps-loop-part : goal.decreases-steps-loop-part
decreases-steps-loop-part l = length l.left

abbrev pub decreases-keys-loop-key : goal.decreases-keys-loop-key
decreases-keys-loop-key l = length l.left

abbrev pub decreases-ranges-loop-range : goal.decreases-ranges-loop-range
decreases-ranges-loop-range l = length l.left.items

abbrev pub decreases-clauses-loop-next : goal.decreases-clauses-loop-next
decreases-clauses-loop-next l = length l.left.items

-- # Measures: at one depth a function calls those of lower rank

abbrev pub decreases-expression : goal.decreases-expression
decreases-expression a = 4 * goal.size-expression a

abbrev pub decreases-boxed : goal.decreases-boxed
decreases-boxed a = 4 * goal.size-boxed a + 1

abbrev pub decreases-expressions : goal.decreases-expressions
decreases-expressions a = 4 * goal.size-expressions a + 1

abbrev pub decreases-calls : goal.decreases-calls
decreases-calls a = 4 * goal.size-calls a + 2

abbrev pub decreases-operands : goal.decreases-operands
decreases-operands a = 4 * goal.size-operands a + 1

abbrev pub decreases-steps : goal.decreases-steps
decreases-steps a = 4 * goal.size-steps a + 1

abbrev pub decreases-step : goal.decreases-step
decreases-step a = 4 * goal.size-step a

abbrev pub decreases-keys : goal.decreases-keys
decreases-keys a = 4 * goal.size-keys a + 1

abbrev pub decreases-ranges : goal.decreases-ranges
decreases-ranges a = 4 * goal.size-ranges a + 1

abbrev pub decreases-flwor : goal.decreases-flwor
decreases-flwor a = 4 * max (most size-PlanClause a.list) (size-Plan a.part) + 2

abbrev pub decreases-returned : goal.decreases-returned
decreases-returned a = 4 * size-Plan a.part + 1

abbrev pub decreases-nested : goal.decreases-nested
decreases-nested a = 4 * max (most size-PlanClause a.more) (size-Plan a.last) + 3

abbrev pub decreases-clauses : goal.decreases-clauses
decreases-clauses a = 4 * most size-PlanClause a.list + 1

abbrev pub decreases-clause : goal.decreases-clause
decreases-clause a = 4 * size-PlanClause a.next
