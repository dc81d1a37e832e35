use Rattle.std.proofs.Common.{◌+◌, ◌*◌}
use Prim.Native.Nat.{max}
use denote.Param.Weighed.{most}
use Rattle.xq_meaning.specs.declared.operators.Operator.{Operator}
use Rattle.xq_meaning.specs.declared.plans.Plan.{Plan, size-Plan}
use Rattle.xq_optimise.proofs.at_nodes.+at_nodes.Given as goal

-- # Measures: at one depth a function calls those of lower rank

abbrev pub decreases-at_node : goal.decreases-at_node
decreases-at_node a = 2 * goal.size-at_node a

abbrev pub decreases-call_at_node : goal.decreases-call_at_node
decreases-call_at_node a = 2 * goal.size-call_at_node a + 1

abbrev pub decreases-path_at_node : goal.decreases-path_at_node
decreases-path_at_node a = 2 * size-Plan a.start.now + 1

abbrev pub decreases-chain_at_node : goal.decreases-chain_at_node
decreases-chain_at_node a = 2 * max (size-Plan a.first.now) (most (λ (o : Operator × Plan). size-Plan o.1) a.rest.now) + 1
