use Rattle.std.proofs.Common.{Ok, Err, ◌≡◌, ◌<◌, ◌+◌, ◌*◌, ◌++◌, [], List, length, drop, map, Option, None, sym, ◌∙◌, ap, subst, refl, arith}
use Rattle.xq_expressions.specs.declared.names.QName.{QName}
use Rattle.xq_expressions.specs.declared.expressions.Expr.{Expr, size-Expr}
use Rattle.xq_expressions.specs.declared.expressions.Step.{Step}
use Rattle.xq_expressions.specs.declared.operators.AllowingEmpty.{AllowingEmpty}
use Rattle.xq_expressions.specs.declared.operators.Sign.{Sign}
use Rattle.xq_expressions.specs.declared.operators.ProductOperator.{ProductOperator}
use Rattle.xq_expressions.specs.declared.operators.SetOperator.{SetOperator}
use Rattle.xq_expressions.specs.declared.operators.Separator.{Separator}
use Rattle.xq_expressions.specs.declared.operators.OrderModifier.{OrderModifier}
use Rattle.xq_statics.specs.Gives.{Judges}
use Rattle.xq_statics.specs.Statics.{places, after, axis_places, each, arrow_call, in_turn, assigned, ranging}
use Rattle.xq_statics.specs.private.Parts as parts
use Rattle.xq_statics.specs.private.Parts.{fault, binding_fault}
use Rattle.xq_statics.specs.Faults.{first_fault, call_fault}
use Rattle.std.specs.Option.{option_or}
use Rattle.std.proofs.lemmas.List.{length-map}
use Rattle.xq_statics.proofs.Equations as eq
use Rattle.xq_statics.proofs.Judging.{stops, handed_on, in_order, first_stops, first_passes, binding_stops, binding_passes, none_bound, each_next, each_stops, each_done, turn_next, turn_stops, turn_done, turn_binds, bound_more, still_within}
use Rattle.xq_statics.proofs.Lists.{both-are, operators-are, keys-are, assignments-are, ranges-are, calls-are}
use denote.Param.Weighed.{most, at_most}
use Prim.Native.Nat.{max}
use Rattle.xq_statics.proofs.walk.+walk.Goals as goal

pub expression-returns-in_err-expression-in-Sum-clause-judged : goal.expression-returns-in_err-expression-in-Sum-clause-judged
expression-returns-in_err-expression-in-Sum-clause-judged t c =
    handed_on c.from_residual-in_err-expression-in-Sum.result c.in_err-expression-in-Sum.field-0.0 _ c.from_residual-in_err-expression-in-Sum.ensures.1 (rw (c.in-Sum.is, eq.places-Sum, operators-are places c.in-Sum.more, ← c.get.ensures) (stops c.in_err-expression-in-Sum.field-0.0 (places c.get.result.now c.args.scope.now) (parts.operands c.in-Sum.more c.args.scope.now) c.in_err-expression-in-Sum.ensures.judged))

pub expression-returns-in_ok-expression-in-Sum-clause-judged : goal.expression-returns-in_ok-expression-in-Sum-clause-judged
expression-returns-in_ok-expression-in-Sum-clause-judged t c =
    rw (c.in-Sum.is, eq.places-Sum, operators-are places c.in-Sum.more, ← c.get.ensures, ← c.as_slice-in-Sum.ensures) (in_order c.addends.result (places c.get.result.now) (parts.operands c.as_slice-in-Sum.result.now) c.args.scope.now c.expression.new.scope c.in_ok-expression-in-Sum.ensures.judged c.in_ok-expression-in-Sum.ensures.kept c.addends.ensures.judged)

pub expression-returns-in_err-expression-in-Product-clause-judged : goal.expression-returns-in_err-expression-in-Product-clause-judged
expression-returns-in_err-expression-in-Product-clause-judged t c =
    handed_on c.from_residual-in_err-expression-in-Product.result c.in_err-expression-in-Product.field-0.0 _ c.from_residual-in_err-expression-in-Product.ensures.1 (rw (c.in-Product.is, eq.places-Product, operators-are places c.in-Product.more, ← c.get-in-Product.ensures) (stops c.in_err-expression-in-Product.field-0.0 (places c.get-in-Product.result.now c.args.scope.now) (parts.operands c.in-Product.more c.args.scope.now) c.in_err-expression-in-Product.ensures.judged))

pub expression-returns-in_ok-expression-in-Product-clause-judged : goal.expression-returns-in_ok-expression-in-Product-clause-judged
expression-returns-in_ok-expression-in-Product-clause-judged t c =
    rw (c.in-Product.is, eq.places-Product, operators-are places c.in-Product.more, ← c.get-in-Product.ensures, ← c.as_slice-in-Product.ensures) (in_order c.factors.result (places c.get-in-Product.result.now) (parts.operands c.as_slice-in-Product.result.now) c.args.scope.now c.expression-in-Product.new.scope c.in_ok-expression-in-Product.ensures.judged c.in_ok-expression-in-Product.ensures.kept c.factors.ensures.judged)

pub expression-returns-in_err-expression-in-SetOperation-clause-judged : goal.expression-returns-in_err-expression-in-SetOperation-clause-judged
expression-returns-in_err-expression-in-SetOperation-clause-judged t c =
    handed_on c.from_residual-in_err-expression-in-SetOperation.result c.in_err-expression-in-SetOperation.field-0.0 _ c.from_residual-in_err-expression-in-SetOperation.ensures.1 (rw (c.in-SetOperation.is, eq.places-SetOperation, operators-are places c.in-SetOperation.more, ← c.get-in-SetOperation.ensures) (stops c.in_err-expression-in-SetOperation.field-0.0 (places c.get-in-SetOperation.result.now c.args.scope.now) (parts.operands c.in-SetOperation.more c.args.scope.now) c.in_err-expression-in-SetOperation.ensures.judged))

pub expression-returns-in_ok-expression-in-SetOperation-clause-judged : goal.expression-returns-in_ok-expression-in-SetOperation-clause-judged
expression-returns-in_ok-expression-in-SetOperation-clause-judged t c =
    rw (c.in-SetOperation.is, eq.places-SetOperation, operators-are places c.in-SetOperation.more, ← c.get-in-SetOperation.ensures, ← c.as_slice-in-SetOperation.ensures) (in_order c.set_operands.result (places c.get-in-SetOperation.result.now) (parts.operands c.as_slice-in-SetOperation.result.now) c.args.scope.now c.expression-in-SetOperation.new.scope c.in_ok-expression-in-SetOperation.ensures.judged c.in_ok-expression-in-SetOperation.ensures.kept c.set_operands.ensures.judged)

pub expression-returns-in_err-expression-in-Arrow-clause-judged : goal.expression-returns-in_err-expression-in-Arrow-clause-judged
expression-returns-in_err-expression-in-Arrow-clause-judged t c =
    handed_on c.from_residual-in_err-expression-in-Arrow.result c.in_err-expression-in-Arrow.field-0.0 _ c.from_residual-in_err-expression-in-Arrow.ensures.1 (rw (c.in-Arrow.is, eq.places-Arrow, calls-are c.in-Arrow.calls, ← c.get-in-Arrow.ensures) (stops c.in_err-expression-in-Arrow.field-0.0 (places c.get-in-Arrow.result.now c.args.scope.now) (parts.arrow_calls c.in-Arrow.calls c.args.scope.now) c.in_err-expression-in-Arrow.ensures.judged))

pub expression-returns-in_ok-expression-in-Arrow-clause-judged : goal.expression-returns-in_ok-expression-in-Arrow-clause-judged
expression-returns-in_ok-expression-in-Arrow-clause-judged t c =
    rw (c.in-Arrow.is, eq.places-Arrow, calls-are c.in-Arrow.calls, ← c.get-in-Arrow.ensures, ← c.as_slice-in-Arrow.ensures) (in_order c.arrow_calls.result (places c.get-in-Arrow.result.now) (parts.arrow_calls c.as_slice-in-Arrow.result.now) c.args.scope.now c.expression-in-Arrow.new.scope c.in_ok-expression-in-Arrow.ensures.judged c.in_ok-expression-in-Arrow.ensures.kept c.arrow_calls.ensures.judged)

pub expression-returns-in_err-expression-in-Map-clause-judged : goal.expression-returns-in_err-expression-in-Map-clause-judged
expression-returns-in_err-expression-in-Map-clause-judged t c =
    handed_on c.from_residual-in_err-expression-in-Map.result c.in_err-expression-in-Map.field-0.0 _ c.from_residual-in_err-expression-in-Map.ensures.1 (rw (c.in-Map.is, eq.places-Map, ← c.get-in-Map.ensures) (stops c.in_err-expression-in-Map.field-0.0 (places c.get-in-Map.result.now c.args.scope.now) (each (map places c.in-Map.more) c.args.scope.now) c.in_err-expression-in-Map.ensures.judged))

pub expression-returns-in_ok-expression-in-Map-clause-judged : goal.expression-returns-in_ok-expression-in-Map-clause-judged
expression-returns-in_ok-expression-in-Map-clause-judged t c =
    rw (c.in-Map.is, eq.places-Map, ← c.get-in-Map.ensures, ← c.as_slice-in-Map.ensures) (in_order c.expressions-in-Map.result (places c.get-in-Map.result.now) (each (map places c.as_slice-in-Map.result.now)) c.args.scope.now c.expression-in-Map.new.scope c.in_ok-expression-in-Map.ensures.judged c.in_ok-expression-in-Map.ensures.kept c.expressions-in-Map.ensures.judged)

pub expression-returns-in_err-step-in-Path-clause-judged : goal.expression-returns-in_err-step-in-Path-clause-judged
expression-returns-in_err-step-in-Path-clause-judged t c =
    handed_on c.from_residual-in_err-step-in-Path.result c.in_err-step-in-Path.field-0.0 _ c.from_residual-in_err-step-in-Path.ensures.1 (rw (c.in-Path.is, eq.places-Path, operators-are parts.step c.in-Path.more, ← c.get-in-Path.ensures) (stops c.in_err-step-in-Path.field-0.0 (parts.step c.get-in-Path.result.now c.args.scope.now) (parts.steps c.in-Path.more c.args.scope.now) c.in_err-step-in-Path.ensures.judged))

pub expression-returns-in_ok-step-in-Path-clause-judged : goal.expression-returns-in_ok-step-in-Path-clause-judged
expression-returns-in_ok-step-in-Path-clause-judged t c =
    rw (c.in-Path.is, eq.places-Path, operators-are parts.step c.in-Path.more, ← c.get-in-Path.ensures, ← c.as_slice-in-Path.ensures) (in_order c.steps.result (parts.step c.get-in-Path.result.now) (parts.steps c.as_slice-in-Path.result.now) c.args.scope.now c.step.new.scope c.in_ok-step-in-Path.ensures.judged c.in_ok-step-in-Path.ensures.kept c.steps.ensures.judged)

pub expression-returns-in_err-constructor_name-in-Named-clause-judged : goal.expression-returns-in_err-constructor_name-in-Named-clause-judged
expression-returns-in_err-constructor_name-in-Named-clause-judged t c =
    handed_on c.from_residual-in_err-constructor_name-in-Named.result c.in_err-constructor_name-in-Named.field-0.0 _ c.from_residual-in_err-constructor_name-in-Named.ensures.1 (rw (c.in-Named.is, eq.places-Named) (stops c.in_err-constructor_name-in-Named.field-0.0 (parts.constructor_name c.in-Named.name c.args.scope.now) (places c.in-Named.content c.args.scope.now) c.in_err-constructor_name-in-Named.ensures.judged))

pub expression-returns-in_ok-constructor_name-in-Named-clause-judged : goal.expression-returns-in_ok-constructor_name-in-Named-clause-judged
expression-returns-in_ok-constructor_name-in-Named-clause-judged t c =
    rw (c.in-Named.is, eq.places-Named, ← c.get-in-Named.ensures) (in_order c.expression-in-Named.result (parts.constructor_name c.in-Named.name) (places c.get-in-Named.result.now) c.args.scope.now c.constructor_name.new.scope c.in_ok-constructor_name-in-Named.ensures.judged c.in_ok-constructor_name-in-Named.ensures.kept c.expression-in-Named.ensures.judged)

pub expression-returns-in_err-expression-in-If-clause-judged : goal.expression-returns-in_err-expression-in-If-clause-judged
expression-returns-in_err-expression-in-If-clause-judged t c =
    handed_on c.from_residual-in_err-expression-in-If.result c.in_err-expression-in-If.field-0.0 _ c.from_residual-in_err-expression-in-If.ensures.1 (rw (c.in-If.is, eq.places-If, ← c.get-in-If.ensures) (stops c.in_err-expression-in-If.field-0.0 (places c.get-in-If.result.now c.args.scope.now) (places c.in-If.positive c.args.scope.now ++ places c.in-If.negative c.args.scope.now) c.in_err-expression-in-If.ensures.judged))

pub expression-returns-in_err-expression-in-If-2-clause-judged : goal.expression-returns-in_err-expression-in-If-2-clause-judged
expression-returns-in_err-expression-in-If-2-clause-judged t c =
    handed_on c.from_residual-in_err-expression-in-If-2.result c.in_err-expression-in-If-2.field-0.0 _ c.from_residual-in_err-expression-in-If-2.ensures.1 (rw (c.in-If.is, eq.places-If, ← c.get-in-If.ensures, ← c.get-in-If-2.ensures) (in_order (Err c.in_err-expression-in-If-2.field-0.0) (places c.get-in-If.result.now) (after (places c.get-in-If-2.result.now) (places c.in-If.negative)) c.args.scope.now c.expression-in-If.new.scope c.in_ok-expression-in-If.ensures.judged c.in_ok-expression-in-If.ensures.kept (stops c.in_err-expression-in-If-2.field-0.0 (places c.get-in-If-2.result.now c.expression-in-If.new.scope) (places c.in-If.negative c.expression-in-If.new.scope) c.in_err-expression-in-If-2.ensures.judged)))

pub expression-returns-in_ok-expression-in-If-2-clause-judged : goal.expression-returns-in_ok-expression-in-If-2-clause-judged
expression-returns-in_ok-expression-in-If-2-clause-judged t c =
    rw (c.in-If.is, eq.places-If, ← c.get-in-If.ensures, ← c.get-in-If-2.ensures, ← c.get-in-If-3.ensures)
    (in_order c.expression-in-If-3.result (places c.get-in-If.result.now) (after (places c.get-in-If-2.result.now) (places c.get-in-If-3.result.now)) c.args.scope.now c.expression-in-If.new.scope c.in_ok-expression-in-If.ensures.judged c.in_ok-expression-in-If.ensures.kept
    (in_order c.expression-in-If-3.result (places c.get-in-If-2.result.now) (places c.get-in-If-3.result.now) c.expression-in-If.new.scope c.expression-in-If-2.new.scope c.in_ok-expression-in-If-2.ensures.judged c.in_ok-expression-in-If-2.ensures.kept c.expression-in-If-3.ensures.judged))

pub expression-returns-in_ok-call-in-Call-clause-judged : goal.expression-returns-in_ok-call-in-Call-clause-judged
expression-returns-in_ok-call-in-Call-clause-judged t c =
    let name = c.in-Call.name in
    let arguments = c.in-Call.arguments in
    let rest = first_fault (each (map places arguments) c.args.scope.now) in
    let count : length (map places arguments) ≡ length c.as_slice.result.now = length-map arguments places ∙ ap length (sym c.as_slice.ensures) in
    let none : call_fault name.prefix name.local (length (map places arguments)) ≡ None = ap (call_fault name.prefix name.local) count ∙ c.in_ok-call-in-Call.ensures in
    let judged : Judges c.expressions.result rest = rw (← c.as_slice-in-Call.ensures) c.expressions.ensures.judged in
    rw (c.in-Call.is, eq.places-Call) (subst (λ o. Judges c.expressions.result (option_or o rest)) (sym none) judged)

pub expression-returns-in_err-clauses-in-Flwor-clause-judged : goal.expression-returns-in_err-clauses-in-Flwor-clause-judged
expression-returns-in_err-clauses-in-Flwor-clause-judged t c =
    handed_on c.from_residual-in_err-clauses-in-Flwor.result c.in_err-clauses-in-Flwor.field-0.0 _ c.from_residual-in_err-clauses-in-Flwor.ensures.1 (rw (c.in-Flwor.is, eq.places-Flwor, ← c.as_slice-in-Flwor.ensures) (binding_stops c.in_err-clauses-in-Flwor.field-0.0 (in_turn (map parts.clause c.as_slice-in-Flwor.result.now)) (places c.in-Flwor.part) c.args.scope.now (drop c.len-start.result c.args.scope.now) (none_bound c.len-start.result c.args.scope.now c.len-start.ensures) c.in_err-clauses-in-Flwor.ensures.judged))

pub expression-returns-in_err-expression-in-Flwor-clause-judged : goal.expression-returns-in_err-expression-in-Flwor-clause-judged
expression-returns-in_err-expression-in-Flwor-clause-judged t c =
    handed_on c.from_residual-in_err-expression-in-Flwor.result c.in_err-expression-in-Flwor.field-0.0 _ c.from_residual-in_err-expression-in-Flwor.ensures.1 (rw (c.in-Flwor.is, eq.places-Flwor, ← c.as_slice-in-Flwor.ensures, ← c.get-in-Flwor.ensures) (binding_passes (Err c.in_err-expression-in-Flwor.field-0.0) (in_turn (map parts.clause c.as_slice-in-Flwor.result.now)) (places c.get-in-Flwor.result.now) c.args.scope.now (drop c.len-start.result c.args.scope.now) c.clauses.new.scope (none_bound c.len-start.result c.args.scope.now c.len-start.ensures) c.in_ok-clauses-in-Flwor.ensures.judged c.in_ok-clauses-in-Flwor.ensures.bound c.in_err-expression-in-Flwor.ensures.judged))

pub expression-returns-in_ok-expression-in-Flwor-clause-judged : goal.expression-returns-in_ok-expression-in-Flwor-clause-judged
expression-returns-in_ok-expression-in-Flwor-clause-judged t c =
    rw (c.in-Flwor.is, eq.places-Flwor, ← c.as_slice-in-Flwor.ensures, ← c.get-in-Flwor.ensures)
    (binding_passes (Ok tt) (in_turn (map parts.clause c.as_slice-in-Flwor.result.now)) (places c.get-in-Flwor.result.now) c.args.scope.now (drop c.len-start.result c.args.scope.now) c.clauses.new.scope (none_bound c.len-start.result c.args.scope.now c.len-start.ensures) c.in_ok-clauses-in-Flwor.ensures.judged c.in_ok-clauses-in-Flwor.ensures.bound c.in_ok-expression-in-Flwor.ensures.judged)

pub expression-returns-in_err-assignments-in-Quantified-clause-judged : goal.expression-returns-in_err-assignments-in-Quantified-clause-judged
expression-returns-in_err-assignments-in-Quantified-clause-judged t c =
    handed_on c.from_residual-in_err-assignments-in-Quantified.result c.in_err-assignments-in-Quantified.field-0.0 _ c.from_residual-in_err-assignments-in-Quantified.ensures.1 (rw (c.in-Quantified.is, eq.places-Quantified, assignments-are c.in-Quantified.bindings, ← c.as_slice-in-Quantified.ensures) (binding_stops c.in_err-assignments-in-Quantified.field-0.0 (parts.assignments c.as_slice-in-Quantified.result.now) (places c.in-Quantified.part) c.args.scope.now [] refl (c.in_err-assignments-in-Quantified.ensures.judged [])))

pub expression-returns-in_err-expression-in-Quantified-clause-judged : goal.expression-returns-in_err-expression-in-Quantified-clause-judged
expression-returns-in_err-expression-in-Quantified-clause-judged t c =
    handed_on c.from_residual-in_err-expression-in-Quantified.result c.in_err-expression-in-Quantified.field-0.0 _ c.from_residual-in_err-expression-in-Quantified.ensures.1 (rw (c.in-Quantified.is, eq.places-Quantified, assignments-are c.in-Quantified.bindings, ← c.as_slice-in-Quantified.ensures, ← c.get-in-Quantified.ensures) (binding_passes (Err c.in_err-expression-in-Quantified.field-0.0) (parts.assignments c.as_slice-in-Quantified.result.now) (places c.get-in-Quantified.result.now) c.args.scope.now [] c.assignments.new.scope refl (c.in_ok-assignments-in-Quantified.ensures.judged []) c.in_ok-assignments-in-Quantified.ensures.bound c.in_err-expression-in-Quantified.ensures.judged))

pub expression-returns-in_ok-expression-in-Quantified-clause-judged : goal.expression-returns-in_ok-expression-in-Quantified-clause-judged
expression-returns-in_ok-expression-in-Quantified-clause-judged t c =
    rw (c.in-Quantified.is, eq.places-Quantified, assignments-are c.in-Quantified.bindings, ← c.as_slice-in-Quantified.ensures, ← c.get-in-Quantified.ensures)
    (binding_passes (Ok tt) (parts.assignments c.as_slice-in-Quantified.result.now) (places c.get-in-Quantified.result.now) c.args.scope.now [] c.assignments.new.scope refl (c.in_ok-assignments-in-Quantified.ensures.judged []) c.in_ok-assignments-in-Quantified.ensures.bound c.in_ok-expression-in-Quantified.ensures.judged)

pub expression-returns-in_err-expression-in-Comparison-clause-judged : goal.expression-returns-in_err-expression-in-Comparison-clause-judged
expression-returns-in_err-expression-in-Comparison-clause-judged t c =
    handed_on c.from_residual-in_err-expression-in-Comparison.result c.in_err-expression-in-Comparison.field-0.0 _ c.from_residual-in_err-expression-in-Comparison.ensures.1 (rw (both-are c.args.expr.now c.in-Comparison.left c.in-Comparison.right c.in-Comparison.is, ← c.get-in-Comparison.ensures) (stops c.in_err-expression-in-Comparison.field-0.0 (places c.get-in-Comparison.result.now c.args.scope.now) (places c.in-Comparison.right c.args.scope.now) c.in_err-expression-in-Comparison.ensures.judged))

pub expression-returns-in_ok-expression-in-Comparison-clause-judged : goal.expression-returns-in_ok-expression-in-Comparison-clause-judged
expression-returns-in_ok-expression-in-Comparison-clause-judged t c =
    rw (both-are c.args.expr.now c.in-Comparison.left c.in-Comparison.right c.in-Comparison.is, ← c.get-in-Comparison.ensures, ← c.get-in-Comparison-2.ensures) (in_order c.expression-in-Comparison-2.result (places c.get-in-Comparison.result.now) (places c.get-in-Comparison-2.result.now) c.args.scope.now c.expression-in-Comparison.new.scope c.in_ok-expression-in-Comparison.ensures.judged c.in_ok-expression-in-Comparison.ensures.kept c.expression-in-Comparison-2.ensures.judged)

pub step-returns-in_err-axis-in-Axis-clause-judged : goal.step-returns-in_err-axis-in-Axis-clause-judged
step-returns-in_err-axis-in-Axis-clause-judged t c =
    handed_on c.from_residual.result c.in_err-axis-in-Axis.field-0.0 _ c.from_residual.ensures.1 (rw (c.in-Axis.is, eq.step-Axis) (stops c.in_err-axis-in-Axis.field-0.0 (axis_places c.in-Axis.along) (each (map places c.in-Axis.predicates) c.args.scope.now) c.in_err-axis-in-Axis.ensures))

pub step-returns-in_err-expression-in-Primary-clause-judged : goal.step-returns-in_err-expression-in-Primary-clause-judged
step-returns-in_err-expression-in-Primary-clause-judged t c =
    handed_on c.from_residual-in_err-expression-in-Primary.result c.in_err-expression-in-Primary.field-0.0 _ c.from_residual-in_err-expression-in-Primary.ensures.1 (rw (c.in-Primary.is, eq.step-Primary, ← c.get.ensures) (stops c.in_err-expression-in-Primary.field-0.0 (places c.get.result.now c.args.scope.now) (each (map places c.in-Primary.predicates) c.args.scope.now) c.in_err-expression-in-Primary.ensures.judged))

pub step-returns-in_ok-expression-in-Primary-clause-judged : goal.step-returns-in_ok-expression-in-Primary-clause-judged
step-returns-in_ok-expression-in-Primary-clause-judged t c =
    rw (c.in-Primary.is, eq.step-Primary, ← c.get.ensures, ← c.as_slice-in-Primary.ensures) (in_order c.expressions-in-Primary.result (places c.get.result.now) (each (map places c.as_slice-in-Primary.result.now)) c.args.scope.now c.expression.new.scope c.in_ok-expression-in-Primary.ensures.judged c.in_ok-expression-in-Primary.ensures.kept c.expressions-in-Primary.ensures.judged)

pub clause-returns-in-For-clause-judged : goal.clause-returns-in-For-clause-judged
clause-returns-in-For-clause-judged t c =
    rw (c.in-For.is, eq.clause-For, ranges-are c.in-For.bindings, ← c.as_slice.ensures) (c.ranges-in-For.ensures.judged (drop c.args.start c.args.scope.now))

pub clause-returns-in-Let-clause-judged : goal.clause-returns-in-Let-clause-judged
clause-returns-in-Let-clause-judged t c =
    rw (c.in-Let.is, eq.clause-Let, assignments-are c.in-Let.bindings, ← c.as_slice-in-Let.ensures) (c.assignments.ensures.judged (drop c.args.start c.args.scope.now))

pub clause-returns-in-Order-clause-judged : goal.clause-returns-in-Order-clause-judged
clause-returns-in-Order-clause-judged t c =
    rw (c.in-Order.is, eq.clause-Order, keys-are c.in-Order.specs, ← c.as_slice-in-Order.ensures) c.keys.ensures.judged

pub clause-returns-in-Count-clause-judged : goal.clause-returns-in-Count-clause-judged
clause-returns-in-Count-clause-judged t c =
    rw (c.in-Count.is, eq.clause-Count) (c.count.ensures.judged (drop c.args.start c.args.scope.now))

pub group_spec-returns-in-Assigned-clause-judged : goal.group_spec-returns-in-Assigned-clause-judged
group_spec-returns-in-Assigned-clause-judged t c =
    rw (c.in-Assigned.is, eq.spec-Assigned) (c.assignment.ensures.judged (drop c.args.start c.args.scope.now))

pub clause-returns-in-For-clause-bound : goal.clause-returns-in-For-clause-bound
clause-returns-in-For-clause-bound t c =
    rw (c.in-For.is, eq.clause-For, ranges-are c.in-For.bindings, ← c.as_slice.ensures) c.ranges-in-For.ensures.bound

pub clause-returns-in-Let-clause-bound : goal.clause-returns-in-Let-clause-bound
clause-returns-in-Let-clause-bound t c =
    rw (c.in-Let.is, eq.clause-Let, assignments-are c.in-Let.bindings, ← c.as_slice-in-Let.ensures) c.assignments.ensures.bound

pub clause-returns-in-Count-clause-bound : goal.clause-returns-in-Count-clause-bound
clause-returns-in-Count-clause-bound t c =
    rw (c.in-Count.is, eq.clause-Count) c.count.ensures.bound

pub expressions-loop-expr-init : goal.expressions-loop-expr-init
expressions-loop-expr-init t c =
    record { kept = refl; faults = refl }

pub expressions-returns-in_err-expression-clause-judged : goal.expressions-returns-in_err-expression-clause-judged
expressions-returns-in_err-expression-clause-judged t c =
    handed_on c.from_residual.result c.in_err-expression.field-0.0 _ c.from_residual.ensures.1
    (each_stops places c.args.exprs.now c.loop-expr.expr-index c.expr-item.result c.args.scope.now c.loop-expr.scope c.loop-expr.invariant _ (omega (arith, c.loop-expr-test.true)) c.expr-item.is c.in_err-expression.ensures.judged)

pub expressions-loop-expr-preserved : goal.expressions-loop-expr-preserved
expressions-loop-expr-preserved t c =
    each_next places c.args.exprs.now c.loop-expr.expr-index c.expr-item.result c.args.scope.now c.loop-expr.scope c.loop-expr.invariant c.expression.new.scope (omega (arith, c.loop-expr-test.true)) c.expr-item.is c.in_ok-expression.ensures.judged c.in_ok-expression.ensures.kept

pub expressions-returns-clause-judged : goal.expressions-returns-clause-judged
expressions-returns-clause-judged t c =
    each_done places c.args.exprs.now c.loop-expr.expr-index c.args.scope.now c.loop-expr.scope c.loop-expr.invariant (omega (arith, c.loop-expr-test.false))

pub expressions-returns-clause-kept : goal.expressions-returns-clause-kept
expressions-returns-clause-kept t c =
    c.loop-expr.invariant.kept

pub addends-loop-operand-init : goal.addends-loop-operand-init
addends-loop-operand-init t c =
    record { kept = refl; faults = refl }

pub addends-returns-in_err-expression-clause-judged : goal.addends-returns-in_err-expression-clause-judged
addends-returns-in_err-expression-clause-judged t c =
    handed_on c.from_residual.result c.in_err-expression.field-0.0 _ c.from_residual.ensures.1
    (each_stops (λ (o : Sign × Expr). places o.1) c.args.operands.now c.loop-operand.operand-index c.loop-operand-item.result c.args.scope.now c.loop-operand.scope c.loop-operand.invariant _ (omega (arith, c.loop-operand-test.true)) c.loop-operand-item.is c.in_err-expression.ensures.judged)

pub addends-loop-operand-preserved : goal.addends-loop-operand-preserved
addends-loop-operand-preserved t c =
    each_next (λ (o : Sign × Expr). places o.1) c.args.operands.now c.loop-operand.operand-index c.loop-operand-item.result c.args.scope.now c.loop-operand.scope c.loop-operand.invariant c.expression.new.scope (omega (arith, c.loop-operand-test.true)) c.loop-operand-item.is c.in_ok-expression.ensures.judged c.in_ok-expression.ensures.kept

pub addends-returns-clause-judged : goal.addends-returns-clause-judged
addends-returns-clause-judged t c =
    each_done (λ (o : Sign × Expr). places o.1) c.args.operands.now c.loop-operand.operand-index c.args.scope.now c.loop-operand.scope c.loop-operand.invariant (omega (arith, c.loop-operand-test.false))

pub addends-returns-clause-kept : goal.addends-returns-clause-kept
addends-returns-clause-kept t c =
    c.loop-operand.invariant.kept

pub factors-loop-operand-init : goal.factors-loop-operand-init
factors-loop-operand-init t c =
    record { kept = refl; faults = refl }

pub factors-returns-in_err-expression-clause-judged : goal.factors-returns-in_err-expression-clause-judged
factors-returns-in_err-expression-clause-judged t c =
    handed_on c.from_residual.result c.in_err-expression.field-0.0 _ c.from_residual.ensures.1
    (each_stops (λ (o : ProductOperator × Expr). places o.1) c.args.operands.now c.loop-operand.operand-index c.loop-operand-item.result c.args.scope.now c.loop-operand.scope c.loop-operand.invariant _ (omega (arith, c.loop-operand-test.true)) c.loop-operand-item.is c.in_err-expression.ensures.judged)

pub factors-loop-operand-preserved : goal.factors-loop-operand-preserved
factors-loop-operand-preserved t c =
    each_next (λ (o : ProductOperator × Expr). places o.1) c.args.operands.now c.loop-operand.operand-index c.loop-operand-item.result c.args.scope.now c.loop-operand.scope c.loop-operand.invariant c.expression.new.scope (omega (arith, c.loop-operand-test.true)) c.loop-operand-item.is c.in_ok-expression.ensures.judged c.in_ok-expression.ensures.kept

pub factors-returns-clause-judged : goal.factors-returns-clause-judged
factors-returns-clause-judged t c =
    each_done (λ (o : ProductOperator × Expr). places o.1) c.args.operands.now c.loop-operand.operand-index c.args.scope.now c.loop-operand.scope c.loop-operand.invariant (omega (arith, c.loop-operand-test.false))

pub factors-returns-clause-kept : goal.factors-returns-clause-kept
factors-returns-clause-kept t c =
    c.loop-operand.invariant.kept

pub set_operands-loop-operand-init : goal.set_operands-loop-operand-init
set_operands-loop-operand-init t c =
    record { kept = refl; faults = refl }

pub set_operands-returns-in_err-expression-clause-judged : goal.set_operands-returns-in_err-expression-clause-judged
set_operands-returns-in_err-expression-clause-judged t c =
    handed_on c.from_residual.result c.in_err-expression.field-0.0 _ c.from_residual.ensures.1
    (each_stops (λ (o : SetOperator × Expr). places o.1) c.args.operands.now c.loop-operand.operand-index c.loop-operand-item.result c.args.scope.now c.loop-operand.scope c.loop-operand.invariant _ (omega (arith, c.loop-operand-test.true)) c.loop-operand-item.is c.in_err-expression.ensures.judged)

pub set_operands-loop-operand-preserved : goal.set_operands-loop-operand-preserved
set_operands-loop-operand-preserved t c =
    each_next (λ (o : SetOperator × Expr). places o.1) c.args.operands.now c.loop-operand.operand-index c.loop-operand-item.result c.args.scope.now c.loop-operand.scope c.loop-operand.invariant c.expression.new.scope (omega (arith, c.loop-operand-test.true)) c.loop-operand-item.is c.in_ok-expression.ensures.judged c.in_ok-expression.ensures.kept

pub set_operands-returns-clause-judged : goal.set_operands-returns-clause-judged
set_operands-returns-clause-judged t c =
    each_done (λ (o : SetOperator × Expr). places o.1) c.args.operands.now c.loop-operand.operand-index c.args.scope.now c.loop-operand.scope c.loop-operand.invariant (omega (arith, c.loop-operand-test.false))

pub set_operands-returns-clause-kept : goal.set_operands-returns-clause-kept
set_operands-returns-clause-kept t c =
    c.loop-operand.invariant.kept

pub arrow_calls-loop-name-init : goal.arrow_calls-loop-name-init
arrow_calls-loop-name-init t c =
    record { kept = refl; faults = refl }

pub arrow_calls-returns-in_err-call-clause-judged : goal.arrow_calls-returns-in_err-call-clause-judged
arrow_calls-returns-in_err-call-clause-judged t c =
    let call = c.loop-name-item.result in
    handed_on c.from_residual.result c.in_err-call.field-0.0 _ c.from_residual.ensures.1
    (each_stops (λ (o : QName × List Expr). arrow_call o.0 (map places o.1)) c.args.calls.now c.loop-name.name-index call c.args.scope.now c.loop-name.scope c.loop-name.invariant _ (omega (arith, c.loop-name-test.true)) c.loop-name-item.is
    (first_stops _ (call_fault call.0.prefix call.0.local (length (map places call.1) + 1)) (first_fault (each (map places call.1) c.loop-name.scope)) (subst (λ n. Judges (Err c.in_err-call.field-0.0) (call_fault call.0.prefix call.0.local (n + 1))) (ap length c.as_slice-arguments.ensures ∙ sym (length-map call.1 places)) c.in_err-call.ensures)))

pub arrow_calls-returns-in_err-expressions-clause-judged : goal.arrow_calls-returns-in_err-expressions-clause-judged
arrow_calls-returns-in_err-expressions-clause-judged t c =
    let call = c.loop-name-item.result in
    handed_on c.from_residual-in_err-expressions.result c.in_err-expressions.field-0.0 _ c.from_residual-in_err-expressions.ensures.1
    (each_stops (λ (o : QName × List Expr). arrow_call o.0 (map places o.1)) c.args.calls.now c.loop-name.name-index call c.args.scope.now c.loop-name.scope c.loop-name.invariant _ (omega (arith, c.loop-name-test.true)) c.loop-name-item.is
    (first_passes (Err c.in_err-expressions.field-0.0) (call_fault call.0.prefix call.0.local (length (map places call.1) + 1)) (first_fault (each (map places call.1) c.loop-name.scope))
    (ap (λ n. call_fault call.0.prefix call.0.local (n + 1)) (length-map call.1 places ∙ sym (ap length c.as_slice-arguments.ensures)) ∙ c.in_ok-call.ensures) (rw (← c.as_slice-arguments.ensures) c.in_err-expressions.ensures.judged)))

pub arrow_calls-loop-name-preserved : goal.arrow_calls-loop-name-preserved
arrow_calls-loop-name-preserved t c =
    let call = c.loop-name-item.result in
    each_next (λ (o : QName × List Expr). arrow_call o.0 (map places o.1)) c.args.calls.now c.loop-name.name-index call c.args.scope.now c.loop-name.scope c.loop-name.invariant c.expressions.new.scope (omega (arith, c.loop-name-test.true)) c.loop-name-item.is
    (first_passes (Ok tt) (call_fault call.0.prefix call.0.local (length (map places call.1) + 1)) (first_fault (each (map places call.1) c.loop-name.scope))
    (ap (λ n. call_fault call.0.prefix call.0.local (n + 1)) (length-map call.1 places ∙ sym (ap length c.as_slice-arguments.ensures)) ∙ c.in_ok-call.ensures) (rw (← c.as_slice-arguments.ensures) c.in_ok-expressions.ensures.judged))
    c.in_ok-expressions.ensures.kept

pub arrow_calls-returns-clause-judged : goal.arrow_calls-returns-clause-judged
arrow_calls-returns-clause-judged t c =
    each_done (λ (o : QName × List Expr). arrow_call o.0 (map places o.1)) c.args.calls.now c.loop-name.name-index c.args.scope.now c.loop-name.scope c.loop-name.invariant (omega (arith, c.loop-name-test.false))

pub arrow_calls-returns-clause-kept : goal.arrow_calls-returns-clause-kept
arrow_calls-returns-clause-kept t c =
    c.loop-name.invariant.kept

pub steps-loop-next-init : goal.steps-loop-next-init
steps-loop-next-init t c =
    record { kept = refl; faults = refl }

pub steps-returns-in_err-step-clause-judged : goal.steps-returns-in_err-step-clause-judged
steps-returns-in_err-step-clause-judged t c =
    handed_on c.from_residual.result c.in_err-step.field-0.0 _ c.from_residual.ensures.1
    (each_stops (λ (o : Separator × Step). parts.step o.1) c.args.steps.now c.loop-next.next-index c.loop-next-item.result c.args.scope.now c.loop-next.scope c.loop-next.invariant _ (omega (arith, c.loop-next-test.true)) c.loop-next-item.is c.in_err-step.ensures.judged)

pub steps-loop-next-preserved : goal.steps-loop-next-preserved
steps-loop-next-preserved t c =
    each_next (λ (o : Separator × Step). parts.step o.1) c.args.steps.now c.loop-next.next-index c.loop-next-item.result c.args.scope.now c.loop-next.scope c.loop-next.invariant c.step.new.scope (omega (arith, c.loop-next-test.true)) c.loop-next-item.is c.in_ok-step.ensures.judged c.in_ok-step.ensures.kept

pub steps-returns-clause-judged : goal.steps-returns-clause-judged
steps-returns-clause-judged t c =
    each_done (λ (o : Separator × Step). parts.step o.1) c.args.steps.now c.loop-next.next-index c.args.scope.now c.loop-next.scope c.loop-next.invariant (omega (arith, c.loop-next-test.false))

pub steps-returns-clause-kept : goal.steps-returns-clause-kept
steps-returns-clause-kept t c =
    c.loop-next.invariant.kept

pub keys-loop-key-init : goal.keys-loop-key-init
keys-loop-key-init t c =
    record { kept = refl; faults = refl }

pub keys-returns-in_err-expression-clause-judged : goal.keys-returns-in_err-expression-clause-judged
keys-returns-in_err-expression-clause-judged t c =
    handed_on c.from_residual.result c.in_err-expression.field-0.0 _ c.from_residual.ensures.1
    (each_stops (λ (s : Expr × OrderModifier). places s.0) c.args.specs.now c.loop-key.key-index c.loop-key-item.result c.args.scope.now c.loop-key.scope c.loop-key.invariant _ (omega (arith, c.loop-key-test.true)) c.loop-key-item.is c.in_err-expression.ensures.judged)

pub keys-loop-key-preserved : goal.keys-loop-key-preserved
keys-loop-key-preserved t c =
    each_next (λ (s : Expr × OrderModifier). places s.0) c.args.specs.now c.loop-key.key-index c.loop-key-item.result c.args.scope.now c.loop-key.scope c.loop-key.invariant c.expression.new.scope (omega (arith, c.loop-key-test.true)) c.loop-key-item.is c.in_ok-expression.ensures.judged c.in_ok-expression.ensures.kept

pub keys-returns-clause-judged : goal.keys-returns-clause-judged
keys-returns-clause-judged t c =
    each_done (λ (s : Expr × OrderModifier). places s.0) c.args.specs.now c.loop-key.key-index c.args.scope.now c.loop-key.scope c.loop-key.invariant (omega (arith, c.loop-key-test.false))

pub keys-returns-clause-kept : goal.keys-returns-clause-kept
keys-returns-clause-kept t c =
    c.loop-key.invariant.kept

pub clauses-loop-next-init : goal.clauses-loop-next-init
clauses-loop-next-init t c =
    (record { faults = refl; binds = refl }, c.requires)

pub clauses-returns-in_err-clause-clause-judged : goal.clauses-returns-in_err-clause-clause-judged
clauses-returns-in_err-clause-clause-judged t c =
    handed_on c.from_residual.result c.in_err-clause.field-0.0 _ c.from_residual.ensures.1
    (turn_stops parts.clause c.args.clauses.now c.loop-next.next-index c.next-item.result c.args.scope.now (drop c.args.start c.args.scope.now) c.loop-next.scope (drop c.args.start c.loop-next.scope) c.loop-next.invariant.0 _ (omega (arith, c.loop-next-test.true)) c.next-item.is c.in_err-clause.ensures.judged)

pub clauses-loop-next-preserved : goal.clauses-loop-next-preserved
clauses-loop-next-preserved t c = (
  turn_next parts.clause c.args.clauses.now c.loop-next.next-index c.next-item.result c.args.scope.now (drop c.args.start c.args.scope.now) c.loop-next.scope (drop c.args.start c.loop-next.scope) c.loop-next.invariant.0 c.clause.new.scope (drop c.args.start c.clause.new.scope) (omega (arith, c.loop-next-test.true)) c.next-item.is c.in_ok-clause.ensures.judged c.in_ok-clause.ensures.bound
      (bound_more c.args.start c.loop-next.scope c.clause.new.scope _ c.loop-next.invariant.1 c.in_ok-clause.ensures.bound),
  still_within c.args.start c.loop-next.scope c.clause.new.scope _ c.loop-next.invariant.1 c.in_ok-clause.ensures.bound,
)

pub clauses-returns-clause-judged : goal.clauses-returns-clause-judged
clauses-returns-clause-judged t c =
    turn_done parts.clause c.args.clauses.now c.loop-next.next-index c.args.scope.now (drop c.args.start c.args.scope.now) c.loop-next.scope (drop c.args.start c.loop-next.scope) c.loop-next.invariant.0 (omega (arith, c.loop-next-test.false))

pub clauses-returns-clause-bound : goal.clauses-returns-clause-bound
clauses-returns-clause-bound t c =
    turn_binds parts.clause c.args.clauses.now c.loop-next.next-index c.args.scope.now (drop c.args.start c.args.scope.now) c.loop-next.scope (drop c.args.start c.loop-next.scope) c.loop-next.invariant.0 (omega (arith, c.loop-next-test.false))

pub group_specs-loop-spec-init : goal.group_specs-loop-spec-init
group_specs-loop-spec-init t c =
    (record { faults = refl; binds = refl }, c.requires)

pub group_specs-returns-in_err-group_spec-clause-judged : goal.group_specs-returns-in_err-group_spec-clause-judged
group_specs-returns-in_err-group_spec-clause-judged t c =
    handed_on c.from_residual.result c.in_err-group_spec.field-0.0 _ c.from_residual.ensures.1
    (turn_stops parts.group_spec c.args.specs.now c.loop-spec.spec-index c.spec-item.result c.args.scope.now (drop c.args.start c.args.scope.now) c.loop-spec.scope (drop c.args.start c.loop-spec.scope) c.loop-spec.invariant.0 _ (omega (arith, c.loop-spec-test.true)) c.spec-item.is c.in_err-group_spec.ensures.judged)

pub group_specs-loop-spec-preserved : goal.group_specs-loop-spec-preserved
group_specs-loop-spec-preserved t c = (
  turn_next parts.group_spec c.args.specs.now c.loop-spec.spec-index c.spec-item.result c.args.scope.now (drop c.args.start c.args.scope.now) c.loop-spec.scope (drop c.args.start c.loop-spec.scope) c.loop-spec.invariant.0 c.group_spec.new.scope (drop c.args.start c.group_spec.new.scope) (omega (arith, c.loop-spec-test.true)) c.spec-item.is c.in_ok-group_spec.ensures.judged c.in_ok-group_spec.ensures.bound
      (bound_more c.args.start c.loop-spec.scope c.group_spec.new.scope _ c.loop-spec.invariant.1 c.in_ok-group_spec.ensures.bound),
  still_within c.args.start c.loop-spec.scope c.group_spec.new.scope _ c.loop-spec.invariant.1 c.in_ok-group_spec.ensures.bound,
)

pub group_specs-returns-clause-judged : goal.group_specs-returns-clause-judged
group_specs-returns-clause-judged t c =
    turn_done parts.group_spec c.args.specs.now c.loop-spec.spec-index c.args.scope.now (drop c.args.start c.args.scope.now) c.loop-spec.scope (drop c.args.start c.loop-spec.scope) c.loop-spec.invariant.0 (omega (arith, c.loop-spec-test.false))

pub group_specs-returns-clause-bound : goal.group_specs-returns-clause-bound
group_specs-returns-clause-bound t c =
    turn_binds parts.group_spec c.args.specs.now c.loop-spec.spec-index c.args.scope.now (drop c.args.start c.args.scope.now) c.loop-spec.scope (drop c.args.start c.loop-spec.scope) c.loop-spec.invariant.0 (omega (arith, c.loop-spec-test.false))

pub assignments-loop-variable-init : goal.assignments-loop-variable-init
assignments-loop-variable-init t c =
    λ before. (before, record { faults = refl; binds = refl })

pub assignments-returns-in_err-assignment-clause-judged : goal.assignments-returns-in_err-assignment-clause-judged
assignments-returns-in_err-assignment-clause-judged t c =
    λ before. handed_on c.from_residual.result c.in_err-assignment.field-0.0 _ c.from_residual.ensures.1
    (turn_stops (λ (b : QName × Expr). assigned b.0 (places b.1)) c.args.bindings.now c.loop-variable.variable-index c.loop-variable-item.result c.args.scope.now before c.loop-variable.scope (c.loop-variable.invariant before).0 (c.loop-variable.invariant before).1 _ (omega (arith, c.loop-variable-test.true)) c.loop-variable-item.is (c.in_err-assignment.ensures.judged (c.loop-variable.invariant before).0))

pub assignments-loop-variable-preserved : goal.assignments-loop-variable-preserved
assignments-loop-variable-preserved t c =
    λ before. (
      (c.loop-variable.invariant before).0 ++ ((λ (b : QName × Expr). assigned b.0 (places b.1)) c.loop-variable-item.result).binds,
      turn_next (λ (b : QName × Expr). assigned b.0 (places b.1)) c.args.bindings.now c.loop-variable.variable-index c.loop-variable-item.result c.args.scope.now before c.loop-variable.scope (c.loop-variable.invariant before).0 (c.loop-variable.invariant before).1 c.assignment.new.scope _ (omega (arith, c.loop-variable-test.true)) c.loop-variable-item.is (c.in_ok-assignment.ensures.judged (c.loop-variable.invariant before).0) c.in_ok-assignment.ensures.bound refl,
    )

pub assignments-returns-clause-judged : goal.assignments-returns-clause-judged
assignments-returns-clause-judged t c =
    λ before. turn_done (λ (b : QName × Expr). assigned b.0 (places b.1)) c.args.bindings.now c.loop-variable.variable-index c.args.scope.now before c.loop-variable.scope (c.loop-variable.invariant before).0 (c.loop-variable.invariant before).1 (omega (arith, c.loop-variable-test.false))

pub assignments-returns-clause-bound : goal.assignments-returns-clause-bound
assignments-returns-clause-bound t c =
    turn_binds (λ (b : QName × Expr). assigned b.0 (places b.1)) c.args.bindings.now c.loop-variable.variable-index c.args.scope.now [] c.loop-variable.scope (c.loop-variable.invariant []).0 (c.loop-variable.invariant []).1 (omega (arith, c.loop-variable-test.false))

pub ranges-loop-variable-init : goal.ranges-loop-variable-init
ranges-loop-variable-init t c =
    λ before. (before, record { faults = refl; binds = refl })

pub ranges-returns-in_err-range-clause-judged : goal.ranges-returns-in_err-range-clause-judged
ranges-returns-in_err-range-clause-judged t c =
    λ before. handed_on c.from_residual.result c.in_err-range.field-0.0 _ c.from_residual.ensures.1
    (turn_stops (λ (b : QName × AllowingEmpty × Option QName × Expr). ranging b.0 b.2 (places b.3)) c.args.bindings.now c.loop-variable.variable-index c.loop-variable-item.result c.args.scope.now before c.loop-variable.scope (c.loop-variable.invariant before).0 (c.loop-variable.invariant before).1 _ (omega (arith, c.loop-variable-test.true)) c.loop-variable-item.is (c.in_err-range.ensures.judged (c.loop-variable.invariant before).0))

pub ranges-loop-variable-preserved : goal.ranges-loop-variable-preserved
ranges-loop-variable-preserved t c =
    λ before. (
      (c.loop-variable.invariant before).0 ++ ((λ (b : QName × AllowingEmpty × Option QName × Expr). ranging b.0 b.2 (places b.3)) c.loop-variable-item.result).binds,
      turn_next (λ (b : QName × AllowingEmpty × Option QName × Expr). ranging b.0 b.2 (places b.3)) c.args.bindings.now c.loop-variable.variable-index c.loop-variable-item.result c.args.scope.now before c.loop-variable.scope (c.loop-variable.invariant before).0 (c.loop-variable.invariant before).1 c.range.new.scope _ (omega (arith, c.loop-variable-test.true)) c.loop-variable-item.is (c.in_ok-range.ensures.judged (c.loop-variable.invariant before).0) c.in_ok-range.ensures.bound refl,
    )

pub ranges-returns-clause-judged : goal.ranges-returns-clause-judged
ranges-returns-clause-judged t c =
    λ before. turn_done (λ (b : QName × AllowingEmpty × Option QName × Expr). ranging b.0 b.2 (places b.3)) c.args.bindings.now c.loop-variable.variable-index c.args.scope.now before c.loop-variable.scope (c.loop-variable.invariant before).0 (c.loop-variable.invariant before).1 (omega (arith, c.loop-variable-test.false))

pub ranges-returns-clause-bound : goal.ranges-returns-clause-bound
ranges-returns-clause-bound t c =
    turn_binds (λ (b : QName × AllowingEmpty × Option QName × Expr). ranging b.0 b.2 (places b.3)) c.args.bindings.now c.loop-variable.variable-index c.args.scope.now [] c.loop-variable.scope (c.loop-variable.invariant []).0 (c.loop-variable.invariant []).1 (omega (arith, c.loop-variable-test.false))

-- the others in a call after an arrow are no deeper than the calls
pub arrow_calls-expressions-requires : goal.arrow_calls-expressions-requires
arrow_calls-expressions-requires t c =
    let depth = λ (o : QName × List Expr). max 0 (max (most size-Expr o.1) 0) in
    let all : 3 * most depth c.args.calls.now + 2 ≡ t = c.decreases in
    let among = at_most depth c.args.calls.now c.loop-name.name-index c.loop-name-item.result (omega (arith, c.loop-name-test.true)) in
    let this = ap depth c.loop-name-item.is in
    let same = ap (most size-Expr) c.as_slice-arguments.ensures in
    let below : 3 * most size-Expr c.as_slice-arguments.result.now + 1 < t = omega (arith, all, among, this, same) in
    (below, tt)
