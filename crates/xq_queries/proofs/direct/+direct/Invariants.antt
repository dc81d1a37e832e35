use Rattle.std.proofs.Common.{◌+◌, ◌*◌, length}
use denote.Param.Weighed.{most}
use Rattle.xq_expressions.specs.declared.expressions.Expr.{size-Expr}
use Rattle.xq_queries.proofs.DirectPlans.{EachLeft}
use Rattle.xq_queries.proofs.direct.+direct.Given as goal

abbrev pub invariant-each-loop-expr : goal.invariant-each-loop-expr
invariant-each-loop-expr l = EachLeft l.fn.exprs l.left l.plans.items

abbrev pub decreases-each-loop-expr : goal.decreases-each-loop-expr
decreases-each-loop-expr l = length l.left

-- # Measures: at one depth a function calls those of lower rank

abbrev pub decreases-direct : goal.decreases-direct
decreases-direct a = 3 * goal.size-direct a

abbrev pub decreases-boxed : goal.decreases-boxed
decreases-boxed a = 3 * goal.size-boxed a + 1

abbrev pub decreases-each : goal.decreases-each
decreases-each a = 3 * most size-Expr a.exprs + 1

abbrev pub decreases-constructor_name : goal.decreases-constructor_name
decreases-constructor_name a = 3 * goal.size-constructor_name a
