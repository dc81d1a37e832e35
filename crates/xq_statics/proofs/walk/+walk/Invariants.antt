use Rattle.std.proofs.Common.{◌≤◌, ◌+◌, ◌*◌, List, length, map, drop, Option}
use Rattle.xq_atoms.specs.Text.{Text}
use Rattle.xq_expressions.specs.declared.names.QName.{QName}
use Rattle.xq_expressions.specs.declared.expressions.Expr.{Expr}
use Rattle.xq_expressions.specs.declared.expressions.Step.{Step}
use Rattle.xq_expressions.specs.declared.operators.Separator.{Separator}
use Rattle.xq_expressions.specs.declared.operators.AllowingEmpty.{AllowingEmpty}
use Rattle.xq_expressions.specs.declared.operators.Sign.{Sign}
use Rattle.xq_expressions.specs.declared.operators.ProductOperator.{ProductOperator}
use Rattle.xq_expressions.specs.declared.operators.SetOperator.{SetOperator}
use Rattle.xq_expressions.specs.declared.operators.OrderModifier.{OrderModifier}
use Rattle.xq_statics.specs.Statics.{places, arrow_call, assigned, ranging}
use Rattle.xq_statics.specs.private.Parts as parts
use Rattle.xq_statics.proofs.Judging.{EachLeft, TurnLeft}
use Rattle.xq_statics.proofs.walk.+walk.Given as goal

abbrev pub invariant-expressions-loop-expr : goal.invariant-expressions-loop-expr
invariant-expressions-loop-expr l = EachLeft places l.exprs l.expr-index l.fn.scope l.scope

abbrev pub invariant-addends-loop-operand : goal.invariant-addends-loop-operand
invariant-addends-loop-operand l = EachLeft (λ (o : Sign × Expr). places o.1) l.operands l.operand-index l.fn.scope l.scope

abbrev pub invariant-factors-loop-operand : goal.invariant-factors-loop-operand
invariant-factors-loop-operand l = EachLeft (λ (o : ProductOperator × Expr). places o.1) l.operands l.operand-index l.fn.scope l.scope

abbrev pub invariant-set_operands-loop-operand : goal.invariant-set_operands-loop-operand
invariant-set_operands-loop-operand l = EachLeft (λ (o : SetOperator × Expr). places o.1) l.operands l.operand-index l.fn.scope l.scope

abbrev pub invariant-arrow_calls-loop-name : goal.invariant-arrow_calls-loop-name
invariant-arrow_calls-loop-name l = EachLeft (λ (o : QName × List Expr). arrow_call o.0 (map places o.1)) l.calls l.name-index l.fn.scope l.scope

abbrev pub invariant-steps-loop-next : goal.invariant-steps-loop-next
invariant-steps-loop-next l = EachLeft (λ (o : Separator × Step). parts.step o.1) l.steps l.next-index l.fn.scope l.scope

abbrev pub invariant-keys-loop-key : goal.invariant-keys-loop-key
invariant-keys-loop-key l = EachLeft (λ (s : Expr × OrderModifier). places s.0) l.specs l.key-index l.fn.scope l.scope

abbrev pub invariant-clauses-loop-next : goal.invariant-clauses-loop-next
invariant-clauses-loop-next l = TurnLeft parts.clause l.clauses l.next-index l.fn.scope (drop l.start l.fn.scope) l.scope (drop l.start l.scope) × (l.start ≤ length l.scope)

abbrev pub invariant-group_specs-loop-spec : goal.invariant-group_specs-loop-spec
invariant-group_specs-loop-spec l = TurnLeft parts.group_spec l.specs l.spec-index l.fn.scope (drop l.start l.fn.scope) l.scope (drop l.start l.scope) × (l.start ≤ length l.scope)

abbrev pub invariant-assignments-loop-variable : goal.invariant-assignments-loop-variable
invariant-assignments-loop-variable l = (before : List Text) → (bound : List Text) × TurnLeft (λ (b : QName × Expr). assigned b.0 (places b.1)) l.bindings l.variable-index l.fn.scope before l.scope bound

abbrev pub invariant-ranges-loop-variable : goal.invariant-ranges-loop-variable
invariant-ranges-loop-variable l = (before : List Text) → (bound : List Text) × TurnLeft (λ (b : QName × AllowingEmpty × Option QName × Expr). ranging b.0 b.2 (places b.3)) l.bindings l.variable-index l.fn.scope before l.scope bound

-- # Measures: at one depth a function calls those of lower rank

abbrev pub decreases-expression : goal.decreases-expression
decreases-expression a = 3 * goal.size-expression a

abbrev pub decreases-expressions : goal.decreases-expressions
decreases-expressions a = 3 * goal.size-expressions a + 1

abbrev pub decreases-addends : goal.decreases-addends
decreases-addends a = 3 * goal.size-addends a + 1

abbrev pub decreases-factors : goal.decreases-factors
decreases-factors a = 3 * goal.size-factors a + 1

abbrev pub decreases-set_operands : goal.decreases-set_operands
decreases-set_operands a = 3 * goal.size-set_operands a + 1

abbrev pub decreases-arrow_calls : goal.decreases-arrow_calls
decreases-arrow_calls a = 3 * goal.size-arrow_calls a + 2

abbrev pub decreases-steps : goal.decreases-steps
decreases-steps a = 3 * goal.size-steps a + 1

abbrev pub decreases-step : goal.decreases-step
decreases-step a = 3 * goal.size-step a

abbrev pub decreases-constructor_name : goal.decreases-constructor_name
decreases-constructor_name a = 3 * goal.size-constructor_name a

abbrev pub decreases-clauses : goal.decreases-clauses
decreases-clauses a = 3 * goal.size-clauses a + 1

abbrev pub decreases-clause : goal.decreases-clause
decreases-clause a = 3 * goal.size-clause a

abbrev pub decreases-assignments : goal.decreases-assignments
decreases-assignments a = 3 * goal.size-assignments a + 2

abbrev pub decreases-assignment : goal.decreases-assignment
decreases-assignment a = 3 * goal.size-assignment a + 1

abbrev pub decreases-ranges : goal.decreases-ranges
decreases-ranges a = 3 * goal.size-ranges a + 2

abbrev pub decreases-range : goal.decreases-range
decreases-range a = 3 * goal.size-range a + 1

abbrev pub decreases-group_specs : goal.decreases-group_specs
decreases-group_specs a = 3 * goal.size-group_specs a + 1

abbrev pub decreases-group_spec : goal.decreases-group_spec
decreases-group_spec a = 3 * goal.size-group_spec a

abbrev pub decreases-keys : goal.decreases-keys
decreases-keys a = 3 * goal.size-keys a + 1
