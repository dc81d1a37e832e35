use Rattle.std.proofs.Common.{◌≡◌, ◌+◌, ◌*◌, List, map, drop}
use Rattle.xq_atoms.specs.Atom.{Integer}
use Rattle.xq_trees.specs.Tree.{Tree}
use Rattle.xq_tuples.specs.Views.{values_of}
use Rattle.xq_meaning.specs.declared.operators.Operator.{Operator}
use Rattle.xq_meaning.specs.declared.plans.Plan.{Plan, size-Plan}
use Rattle.xq_meaning.specs.Forms as Forms
use Rattle.xq_meaning.specs.PlanMeaning.{Frame, plan_mean}
use denote.Param.Weighed.{most}
use Prim.Native.Nat.{max}
use Rattle.xq_operators.specs.Views.{tuple_at}
use Rattle.xq_eval.proofs.AtHand.{left_of}
use Rattle.xq_eval.proofs.integers.+integers.Given as goal

-- the operators that are left go on from the integer so far
abbrev pub invariant-integer_of_chain-loop-operator : goal.invariant-integer_of_chain-loop-operator
invariant-integer_of_chain-loop-operator l = (trees : List Tree) (frame : Frame) → frame.env ≡ tuple_at trees (values_of l.slots)
    → Forms.chain (plan_mean l.fn.first) (map (λ (op, p). (op, plan_mean p)) l.rest) frame trees ≡ left_of frame trees (Integer l.total) (drop l.operator-index l.rest)

-- # Measures: at one depth a function calls those of lower rank

abbrev pub decreases-integer_of : goal.decreases-integer_of
decreases-integer_of a = 2 * goal.size-integer_of a

abbrev pub decreases-integer_of_chain : goal.decreases-integer_of_chain
decreases-integer_of_chain a = 2 * max (size-Plan a.first.now) (most (λ (o : Operator × Plan). max 0 (max (size-Plan o.1) 0)) a.rest.now) + 1
