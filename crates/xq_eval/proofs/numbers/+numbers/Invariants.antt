use Rattle.std.proofs.Common.{◌≡◌, ◌+◌, ◌*◌, List, map, drop}
use Rattle.xq_atoms.specs.Atom.{atomic_of}
use Rattle.xq_trees.specs.Tree.{Tree}
use Rattle.xq_tuples.specs.Views.{values_of}
use Rattle.xq_meaning.specs.declared.operators.Operator.{Operator}
use Rattle.xq_meaning.specs.declared.plans.Plan.{Plan, size-Plan}
use Rattle.xq_meaning.specs.Forms as Forms
use Rattle.xq_meaning.specs.PlanMeaning.{Frame, plan_mean}
use denote.Param.Weighed.{most}
use Prim.Native.Nat.{max}
use Rattle.xq_operators.specs.Views.{tuple_at}
use Rattle.xq_eval.proofs.AtHand.{left_of}
use Rattle.xq_eval.proofs.numbers.+numbers.Given as goal

-- the operators that are left go on from the number so far
abbrev pub invariant-judged_chain-loop-operator : goal.invariant-judged_chain-loop-operator
invariant-judged_chain-loop-operator l = (trees : List Tree) (frame : Frame) → frame.env ≡ tuple_at trees (values_of l.slots)
    → Forms.chain (plan_mean l.fn.first) (map (λ (op, p). (op, plan_mean p)) l.rest) frame trees ≡ left_of frame trees (atomic_of l.total) (drop l.operator-index l.rest)

-- # Measures: at one depth a function calls those of lower rank

abbrev pub decreases-judged_number : goal.decreases-judged_number
decreases-judged_number a = 3 * goal.size-judged_number a

abbrev pub decreases-judged_chain : goal.decreases-judged_chain
decreases-judged_chain a = 3 * max (size-Plan a.first.now) (most (λ (o : Operator × Plan). max 0 (max (size-Plan o.1) 0)) a.rest.now) + 2

abbrev pub decreases-next_number : goal.decreases-next_number
decreases-next_number a = 3 * goal.size-next_number a + 1
