use Rattle.std.proofs.Common.{◌≡◌, ◌<◌, ◌+◌, ◌*◌, List, ◌++◌, ◌∷◌, [], Some, None, length, refl, sym, ap, ◌∙◌, subst, map, drop, arith}
use Rattle.std.specs.List.{flat_map}
use Rattle.std.proofs.lemmas.List.{take_all, length-map}
use Rattle.xq_meaning.specs.declared.operators.Operator.TheVariants as operator
use Rattle.xq_expressions.specs.Signatures.{function_named}
use Rattle.xq_meaning.specs.Forms
use Rattle.xq_meaning.specs.Meaning.{arrow, call_named, clauses, later_parts, joined_by, mean, clause_mean, group_mean, step_mean}
use Rattle.xq_meaning.specs.CoreMeaning.{core_mean, core_clause_mean}
use Rattle.xq_meaning.proofs.Equations as mean
use Rattle.xq_meaning.proofs.CoreEquations as core
use Rattle.xq_normal.specs.private.Parts as parts
use Rattle.xq_normal.specs.private.Parts.{admitted}
use Rattle.xq_normal.proofs.Lists.{if_ok, first_and_rest, rest_is, map_next, map_done}
use Rattle.xq_normal.proofs.Clauses.{clauses_next}
use denote.Param.Weighed.{most, at_most}
use Rattle.xq_expressions.specs.declared.expressions.Expr.{size-Expr}
use Rattle.xq_expressions.specs.declared.expressions.Clause.TheViews.{sized-Arrow}
use Rattle.xq_normal.proofs.Arrows.{call_depth, CallsLeft, known, unknown, calls_begin, call_next, call_refused, calls_end}
use Rattle.xq_normal.proofs.NormalForms.{arrow_is, map_is, chain_is, flwor_is, quantified_is, joined_is, for_is, let_is, order_is, group_is, path_is, steps_next}
use Rattle.xq_expressions.specs.declared.expressions.Clause.TheOpen.{Expr-F, Step-F}
use Rattle.xq_expressions.specs.declared.expressions.Expr.{out-Expr}
use Rattle.xq_expressions.specs.declared.expressions.Expr.TheVariants as expr
use Rattle.xq_expressions.specs.declared.expressions.Step.{out-Step}
use Rattle.xq_expressions.specs.declared.expressions.Step.TheVariants as written
use Rattle.xq_meaning.specs.declared.normal_forms.Core.{Core}
use Rattle.xq_meaning.specs.declared.normal_forms.Core.TheVariants as form
use Rattle.xq_normal.specs.DocumentPaths.{after_slash}
use Rattle.xq_normal.specs.private.Shapes.{StaysCall, StaysStep, StaySteps, HasShape, plain_step}
use Rattle.xq_normal.proofs.Shapes.{shape_at, step_at, literal_stays, plain_stays, left_next, left_done, path_stays, same_some, none_some}
use Rattle.xq_normal.proofs.normal.+normal.Goals as goal

pub expression-returns-in_ok-addends-in-Sum-clause-same : goal.expression-returns-in_ok-addends-in-Sum-clause-same
expression-returns-in_ok-addends-in-Sum-clause-same t c =
    chain_is operator.Sum c.in-Sum.first c.in-Sum.more c.in_ok-first-in-Sum.first c.in_ok-addends-in-Sum.field-0
    (c.in_ok-first-in-Sum.ensures ∙ ap mean c.get-in-Sum.ensures)
    (c.in_ok-addends-in-Sum.ensures ∙ ap (parts.operands operator.Sum) c.as_slice-in-Sum.ensures)
    ∙ sym (ap mean c.in-Sum.is ∙ mean.mean-Sum c.in-Sum.first c.in-Sum.more)

pub expression-returns-in_ok-factors-in-Product-clause-same : goal.expression-returns-in_ok-factors-in-Product-clause-same
expression-returns-in_ok-factors-in-Product-clause-same t c =
    chain_is operator.Product c.in-Product.first c.in-Product.more c.in_ok-first-in-Product.first c.in_ok-factors-in-Product.field-0
    (c.in_ok-first-in-Product.ensures ∙ ap mean c.get-in-Product.ensures)
    (c.in_ok-factors-in-Product.ensures ∙ ap (parts.operands operator.Product) c.as_slice-in-Product.ensures)
    ∙ sym (ap mean c.in-Product.is ∙ mean.mean-Product c.in-Product.first c.in-Product.more)

pub expression-returns-in_ok-set_operands-in-SetOperation-clause-same : goal.expression-returns-in_ok-set_operands-in-SetOperation-clause-same
expression-returns-in_ok-set_operands-in-SetOperation-clause-same t c =
    chain_is operator.SetOperation c.in-SetOperation.first c.in-SetOperation.more c.in_ok-first-in-SetOperation.first c.in_ok-set_operands-in-SetOperation.field-0
    (c.in_ok-first-in-SetOperation.ensures ∙ ap mean c.get-in-SetOperation.ensures)
    (c.in_ok-set_operands-in-SetOperation.ensures ∙ ap (parts.operands operator.SetOperation) c.as_slice-in-SetOperation.ensures)
    ∙ sym (ap mean c.in-SetOperation.is ∙ mean.mean-SetOperation c.in-SetOperation.first c.in-SetOperation.more)

pub expression-returns-in_ok-first-in-Path-clause-same : goal.expression-returns-in_ok-first-in-Path-clause-same
expression-returns-in_ok-first-in-Path-clause-same t c =
    let found = path_is c.args.expr.now c.in-Path.start c.in-Path.first c.in-Path.more c.in_ok-first-in-Path.first c.in_ok-later-in-Path.later c.in-Path.is
    (c.in_ok-first-in-Path.ensures.same ∙ ap step_mean c.get-in-Path.ensures)
    (c.in_ok-later-in-Path.ensures.same ∙ ap (λ l. later_parts (parts.steps l)) c.as_slice-in-Path.ensures) in
    if_ok c.path.result (λ core h. h ∙ found) c.path.ensures.same

pub clauses-loop-next-preserved : goal.clauses-loop-next-preserved
clauses-loop-next-preserved t c =
    ap (λ l. clauses (map core_clause_mean l)) c.in_ok-append_clauses.ensures
    ∙ clauses_next core_clause_mean clause_mean c.args.list.now c.loop-next.next-index c.loop-next.found c.in_ok-clause.field-0 c.next-item.result
    c.loop-next.invariant (omega (arith, c.loop-next-test.true)) c.next-item.is c.in_ok-clause.ensures

pub group-returns : goal.group-returns
group-returns t c =
    ap (λ l. clauses (map core_clause_mean l)) c.in_ok-push.ensures.ok
    ∙ group_is c.args.specs.now c.loop-spec.found c.in_ok-grouping.field-0
    (c.loop-spec.invariant ∙ ap (flat_map (λ spec. parts.lets (group_mean spec))) (take_all c.loop-spec.spec-index c.args.specs.now (omega (arith, c.loop-spec-test.false))))
    c.in_ok-grouping.ensures

pub joined-returns-in_ok-following-in-len1-up : goal.joined-returns-in_ok-following-in-len1-up
joined-returns-in_ok-following-in-len1-up t c =
    joined_is c.args.operator c.first-item.result (drop 1 c.args.exprs.now) c.in_ok-first-in-len1-up.first c.in_ok-following-in-len1-up.field-0
    c.in_ok-first-in-len1-up.ensures (c.in_ok-following-in-len1-up.ensures ∙ ap (parts.following c.args.operator) (rest_is c.args.exprs.now))
    ∙ ap (λ l. joined_by c.args.operator (map mean l)) (first_and_rest c.args.exprs.now c.first-item.result (omega (arith, c.in-len1-up.len_at_least)) c.first-item.is)

pub expression-returns-in_ok-boxed-in-Flwor-clause-same : goal.expression-returns-in_ok-boxed-in-Flwor-clause-same
expression-returns-in_ok-boxed-in-Flwor-clause-same t c =
    flwor_is c.args.expr.now c.in-Flwor.list c.in-Flwor.part c.in_ok-list-in-Flwor.list c.in_ok-boxed-in-Flwor.field-0 c.in-Flwor.is
    (c.in_ok-list-in-Flwor.ensures ∙ ap (λ l. clauses (map clause_mean l)) c.as_slice-in-Flwor.ensures)
    (c.in_ok-boxed-in-Flwor.ensures ∙ ap mean c.get-in-Flwor.ensures)

pub expression-returns-in_ok-boxed-in-Quantified-clause-same : goal.expression-returns-in_ok-boxed-in-Quantified-clause-same
expression-returns-in_ok-boxed-in-Quantified-clause-same t c =
    quantified_is c.args.expr.now c.in-Quantified.quantifier c.in-Quantified.list c.in-Quantified.part c.in_ok-list-in-Quantified.list c.in_ok-boxed-in-Quantified.field-0 c.in-Quantified.is
    (c.in_ok-list-in-Quantified.ensures ∙ ap parts.bindings c.as_slice-in-Quantified.ensures)
    (c.in_ok-boxed-in-Quantified.ensures ∙ ap mean c.get-in-Quantified.ensures)

pub clause-returns-in-For : goal.clause-returns-in-For
clause-returns-in-For t c =
    if_ok c.ranges-in-For.result (λ found h. for_is c.args.clause.now c.in-For.list c.as_slice.result.now found c.in-For.is c.as_slice.ensures h) c.ranges-in-For.ensures

pub clause-returns-in-Let : goal.clause-returns-in-Let
clause-returns-in-Let t c =
    if_ok c.assignments.result (λ found h. let_is c.args.clause.now c.in-Let.list c.as_slice-in-Let.result.now found c.in-Let.is c.as_slice-in-Let.ensures h) c.assignments.ensures

pub clause-returns-in_ok-keys-in-Order : goal.clause-returns-in_ok-keys-in-Order
clause-returns-in_ok-keys-in-Order t c =
    if_ok c.one-in-Order.result (λ found h. h ∙ order_is c.args.clause.now c.in-Order.specs c.in_ok-keys-in-Order.field-0 c.in-Order.is (c.in_ok-keys-in-Order.ensures ∙ ap parts.keys c.as_slice-in-Order.ensures)) c.one-in-Order.ensures

-- # Calls

pub call-returns-in_ok-expressions-in-Some-clause-same : goal.call-returns-in_ok-expressions-in-Some-clause-same
call-returns-in_ok-expressions-in-Some-clause-same t c =
    let o = function_named c.args.name.now.prefix c.args.name.now.local in
    let values = map mean c.args.arguments.now in
    let is : admitted o (length values) ≡ Some c.in-Some.function = ap (admitted o) (length-map c.args.arguments.now mean) ∙ sym c.called.ensures ∙ c.in-Some.is in
    core.core-Call c.in-Some.function c.in_ok-expressions-in-Some.field-0 ∙ ap (Forms.call c.in-Some.function) c.in_ok-expressions-in-Some.ensures.same
    ∙ sym (known o c.in-Some.function values is)

pub call-returns-in-None-clause-same : goal.call-returns-in-None-clause-same
call-returns-in-None-clause-same t c =
    let o = function_named c.args.name.now.prefix c.args.name.now.local in
    let values = map mean c.args.arguments.now in
    let is : admitted o (length values) ≡ None = ap (admitted o) (length-map c.args.arguments.now mean) ∙ sym c.called.ensures ∙ c.in-None.is in
    if_ok c.unknown_function.result (λ core h. h ∙ sym (unknown o values is)) c.unknown_function.ensures

pub call_on-returns : goal.call_on-returns
call_on-returns t c =
    let o = function_named c.args.name.now.prefix c.args.name.now.local in
    let values = core_mean c.args.first ∷ map mean c.args.arguments.now in
    let many : length values ≡ length c.args.arguments.now + 1 = omega (arith, length-map c.args.arguments.now mean) in
    let is : admitted o (length values) ≡ Some c.in-Some.function = ap (admitted o) many ∙ sym c.called.ensures ∙ c.in-Some.is in
    let others = c.in_ok-expressions.field-0 in
    let all : c.append.new.self ≡ c.args.first ∷ others =
    c.in_ok-append.ensures ∙ ap {B = List Core} (λ l. l ++ others) (c.in_ok-push.ensures.ok ∙ ap {B = List Core} (λ l. l ++ c.args.first ∷ []) c.new-values.ensures) in
    core.core-Call c.in-Some.function c.append.new.self
    ∙ ap (λ l. Forms.call c.in-Some.function (map core_mean l)) all
    ∙ ap (λ ms. Forms.call c.in-Some.function (core_mean c.args.first ∷ ms)) c.in_ok-expressions.ensures.same
    ∙ sym (known o c.in-Some.function values is)

pub call_on-returns-in_default : goal.call_on-returns-in_default
call_on-returns-in_default t c =
    let o = function_named c.args.name.now.prefix c.args.name.now.local in
    let values = core_mean c.args.first ∷ map mean c.args.arguments.now in
    let many : length values ≡ length c.args.arguments.now + 1 = omega (arith, length-map c.args.arguments.now mean) in
    let is : admitted o (length values) ≡ None = ap (admitted o) many ∙ sym c.called.ensures ∙ c.in_default.is in
    if_ok c.unknown_function.result (λ core h. h ∙ sym (unknown o values is)) c.unknown_function.ensures

pub arrow-returns-in_ok-value-in-len1-up : goal.arrow-returns-in_ok-value-in-len1-up
arrow-returns-in_ok-value-in-len1-up t c =
    let next = c.next-item.result in
    let value = c.in_ok-value-in-len1-up.value in
    if_ok c.later_calls.result
    (λ found h. h
    ∙ ap (λ l. arrow (core_mean value) (parts.calls l)) (rest_is c.args.calls.now)
    ∙ ap (λ m. arrow m (parts.calls (drop 1 c.args.calls.now)))
    (c.in_ok-value-in-len1-up.ensures ∙ ap (λ others. call_named next.0 (core_mean c.args.first ∷ map mean others)) c.as_slice.ensures)
    ∙ ap (λ l. arrow (core_mean c.args.first) (parts.calls l)) (first_and_rest c.args.calls.now next (omega (arith, c.in-len1-up.len_at_least)) c.next-item.is))
    c.later_calls.ensures

pub later_calls-loop-name-init : goal.later_calls-loop-name-init
later_calls-loop-name-init t c = record {
  left = subst (CallsLeft (core_mean c.args.value) c.args.calls.now 0) (sym c.new-found.ensures) (calls_begin (core_mean c.args.value) c.args.calls.now);
  kept = c.in_ok-start.ensures;
}

pub later_calls-loop-name-preserved : goal.later_calls-loop-name-preserved
later_calls-loop-name-preserved t c =
    let call = c.loop-name-item.result in
    let same = c.as_slice-arguments.ensures in
    let named = function_named call.0.prefix call.0.local in
    let is : admitted named (length call.1 + 1) ≡ Some c.in-Some.function = ap (λ l. admitted named (length l + 1)) (sym same) ∙ sym c.called.ensures ∙ c.in-Some.is in
    record {
      left = call_next (core_mean c.args.value) c.args.calls.now c.loop-name.name-index c.loop-name.found call c.loop-name.invariant.left (omega (arith, c.loop-name-test.true)) c.loop-name-item.is
          c.in-Some.function c.in_ok-expressions.field-0 c.push.new.self is (c.in_ok-expressions.ensures.same ∙ ap (map mean) same) c.in_ok-push.ensures.ok;
      kept = c.loop-name.invariant.kept;
    }

pub later_calls-returns-in_default : goal.later_calls-returns-in_default
later_calls-returns-in_default t c =
    let call = c.loop-name-item.result in
    let named = function_named call.0.prefix call.0.local in
    let is : admitted named (length call.1 + 1) ≡ None = ap (λ l. admitted named (length l + 1)) (sym c.as_slice-arguments.ensures) ∙ sym c.called.ensures ∙ c.in_default.is in
    if_ok c.unknown_function.result
    (λ found h. h ∙ sym (call_refused (core_mean c.args.value) c.args.calls.now c.loop-name.name-index c.loop-name.found call c.loop-name.invariant.left (omega (arith, c.loop-name-test.true)) c.loop-name-item.is is))
    c.unknown_function.ensures

pub later_calls-returns : goal.later_calls-returns
later_calls-returns t c =
    core.core-Arrow c.in_ok-start.start c.loop-name.found
    ∙ ap (λ m. Forms.arrow m (parts.core_calls c.loop-name.found)) (ap core_mean c.in_ok-start.ensures)
    ∙ sym (calls_end (core_mean c.args.value) c.args.calls.now c.loop-name.name-index c.loop-name.found c.loop-name.invariant.left (omega (arith, c.loop-name-test.false)))

pub expression-returns-in_ok-first-in-Arrow-clause-same : goal.expression-returns-in_ok-first-in-Arrow-clause-same
expression-returns-in_ok-first-in-Arrow-clause-same t c =
    if_ok c.arrow.result
    (λ found h. h ∙ ap (λ cs. arrow (core_mean c.in_ok-first-in-Arrow.first) (parts.calls cs)) c.as_slice-in-Arrow.ensures
    ∙ arrow_is c.args.expr.now c.in-Arrow.first c.in-Arrow.calls (core_mean c.in_ok-first-in-Arrow.first) c.in-Arrow.is (c.in_ok-first-in-Arrow.ensures.same ∙ ap mean c.get-in-Arrow.ensures))
    c.arrow.ensures

pub expression-returns-in_ok-expressions-in-Map-clause-same : goal.expression-returns-in_ok-expressions-in-Map-clause-same
expression-returns-in_ok-expressions-in-Map-clause-same t c =
    map_is c.args.expr.now c.in-Map.first c.in-Map.more c.simple_map.result c.in_ok-first-in-Map.first c.in_ok-expressions-in-Map.field-0 c.in-Map.is c.simple_map.ensures
    (c.in_ok-first-in-Map.ensures ∙ ap mean c.get-in-Map.ensures)
    (c.in_ok-expressions-in-Map.ensures.same ∙ ap (map mean) c.as_slice-in-Map.ensures)

-- # Shapes

pub expression-returns-in-Root-clause-shape : goal.expression-returns-in-Root-clause-shape
expression-returns-in-Root-clause-shape t c =
    shape_at c.args.expr.now Expr-F.Root _ (ap out-Expr c.in-Root.is ∙ expr.outs-Root) tt

pub expression-returns-in-Int-clause-shape : goal.expression-returns-in-Int-clause-shape
expression-returns-in-Int-clause-shape t c =
    shape_at c.args.expr.now (Expr-F.Int c.in-Int.value) _ (ap out-Expr c.in-Int.is ∙ expr.outs-Int c.in-Int.value) tt

pub expression-returns-in-Dec-clause-shape : goal.expression-returns-in-Dec-clause-shape
expression-returns-in-Dec-clause-shape t c =
    shape_at c.args.expr.now (Expr-F.Dec c.in-Dec.value) _ (ap out-Expr c.in-Dec.is ∙ expr.outs-Dec c.in-Dec.value) tt

pub expression-returns-in-ContextItem-clause-shape : goal.expression-returns-in-ContextItem-clause-shape
expression-returns-in-ContextItem-clause-shape t c =
    shape_at c.args.expr.now Expr-F.ContextItem _ (ap out-Expr c.in-ContextItem.is ∙ expr.outs-ContextItem) tt

pub expression-returns-in_ok-text-in-Variable-clause-shape : goal.expression-returns-in_ok-text-in-Variable-clause-shape
expression-returns-in_ok-text-in-Variable-clause-shape t c =
    shape_at c.args.expr.now (Expr-F.«Expr::Variable» c.in-Variable.name) _ (ap out-Expr c.in-Variable.is ∙ expr.outs-Variable c.in-Variable.name) tt

pub expression-returns-in_ok-expressions-in-Sequence-clause-shape : goal.expression-returns-in_ok-expressions-in-Sequence-clause-shape
expression-returns-in_ok-expressions-in-Sequence-clause-shape t c =
    shape_at c.args.expr.now (Expr-F.Sequence c.in-Sequence.parts) _ (ap out-Expr c.in-Sequence.is ∙ expr.outs-Sequence c.in-Sequence.parts) tt

pub expression-returns-in_ok-expressions-in-Or-clause-shape : goal.expression-returns-in_ok-expressions-in-Or-clause-shape
expression-returns-in_ok-expressions-in-Or-clause-shape t c =
    shape_at c.args.expr.now (Expr-F.Or c.in-Or.parts) _ (ap out-Expr c.in-Or.is ∙ expr.outs-Or c.in-Or.parts) tt

pub expression-returns-in_ok-expressions-in-And-clause-shape : goal.expression-returns-in_ok-expressions-in-And-clause-shape
expression-returns-in_ok-expressions-in-And-clause-shape t c =
    shape_at c.args.expr.now (Expr-F.And c.in-And.parts) _ (ap out-Expr c.in-And.is ∙ expr.outs-And c.in-And.parts) tt

pub expression-returns-in_ok-addends-in-Sum-clause-shape : goal.expression-returns-in_ok-addends-in-Sum-clause-shape
expression-returns-in_ok-addends-in-Sum-clause-shape t c =
    shape_at c.args.expr.now (Expr-F.Sum c.in-Sum.first c.in-Sum.more) _ (ap out-Expr c.in-Sum.is ∙ expr.outs-Sum c.in-Sum.first c.in-Sum.more) tt

pub expression-returns-in_ok-factors-in-Product-clause-shape : goal.expression-returns-in_ok-factors-in-Product-clause-shape
expression-returns-in_ok-factors-in-Product-clause-shape t c =
    shape_at c.args.expr.now (Expr-F.Product c.in-Product.first c.in-Product.more) _ (ap out-Expr c.in-Product.is ∙ expr.outs-Product c.in-Product.first c.in-Product.more) tt

pub expression-returns-in_ok-set_operands-in-SetOperation-clause-shape : goal.expression-returns-in_ok-set_operands-in-SetOperation-clause-shape
expression-returns-in_ok-set_operands-in-SetOperation-clause-shape t c =
    shape_at c.args.expr.now (Expr-F.SetOperation c.in-SetOperation.first c.in-SetOperation.more) _ (ap out-Expr c.in-SetOperation.is ∙ expr.outs-SetOperation c.in-SetOperation.first c.in-SetOperation.more) tt

pub expression-returns-in_ok-boxed-in-Unary-clause-shape : goal.expression-returns-in_ok-boxed-in-Unary-clause-shape
expression-returns-in_ok-boxed-in-Unary-clause-shape t c =
    shape_at c.args.expr.now (Expr-F.Unary c.in-Unary.signs c.in-Unary.part) _ (ap out-Expr c.in-Unary.is ∙ expr.outs-Unary c.in-Unary.signs c.in-Unary.part) tt

pub expression-returns-in_ok-expressions-in-Map-clause-shape : goal.expression-returns-in_ok-expressions-in-Map-clause-shape
expression-returns-in_ok-expressions-in-Map-clause-shape t c =
    shape_at c.args.expr.now (Expr-F.Map c.in-Map.first c.in-Map.more) _ (ap out-Expr c.in-Map.is ∙ expr.outs-Map c.in-Map.first c.in-Map.more) tt

pub expression-returns-in_ok-boxed-in-If-clause-shape : goal.expression-returns-in_ok-boxed-in-If-clause-shape
expression-returns-in_ok-boxed-in-If-clause-shape t c =
    shape_at c.args.expr.now (Expr-F.If c.in-If.condition c.in-If.positive c.in-If.negative) _ (ap out-Expr c.in-If.is ∙ expr.outs-If c.in-If.condition c.in-If.positive c.in-If.negative) tt

pub expression-returns-in_ok-boxed-in-Named-clause-shape : goal.expression-returns-in_ok-boxed-in-Named-clause-shape
expression-returns-in_ok-boxed-in-Named-clause-shape t c =
    shape_at c.args.expr.now (Expr-F.Named c.in-Named.node c.in-Named.name c.in-Named.content) _ (ap out-Expr c.in-Named.is ∙ expr.outs-Named c.in-Named.node c.in-Named.name c.in-Named.content) tt

pub expression-returns-in_ok-boxed-in-Unnamed-clause-shape : goal.expression-returns-in_ok-boxed-in-Unnamed-clause-shape
expression-returns-in_ok-boxed-in-Unnamed-clause-shape t c =
    shape_at c.args.expr.now (Expr-F.Unnamed c.in-Unnamed.node c.in-Unnamed.content) _ (ap out-Expr c.in-Unnamed.is ∙ expr.outs-Unnamed c.in-Unnamed.node c.in-Unnamed.content) tt

pub expression-returns-in_ok-boxed-in-Flwor-clause-shape : goal.expression-returns-in_ok-boxed-in-Flwor-clause-shape
expression-returns-in_ok-boxed-in-Flwor-clause-shape t c =
    shape_at c.args.expr.now (Expr-F.Flwor c.in-Flwor.list c.in-Flwor.part) _ (ap out-Expr c.in-Flwor.is ∙ expr.outs-Flwor c.in-Flwor.list c.in-Flwor.part) tt

pub expression-returns-in_ok-boxed-in-Quantified-clause-shape : goal.expression-returns-in_ok-boxed-in-Quantified-clause-shape
expression-returns-in_ok-boxed-in-Quantified-clause-shape t c =
    shape_at c.args.expr.now (Expr-F.Quantified c.in-Quantified.quantifier c.in-Quantified.list c.in-Quantified.part) _ (ap out-Expr c.in-Quantified.is ∙ expr.outs-Quantified c.in-Quantified.quantifier c.in-Quantified.list c.in-Quantified.part) tt

pub expression-returns-in-Concat-clause-shape : goal.expression-returns-in-Concat-clause-shape
expression-returns-in-Concat-clause-shape t c =
    if_ok c.joined.result (λ core h. shape_at c.args.expr.now (Expr-F.Concat c.in-Concat.parts) core (ap out-Expr c.in-Concat.is ∙ expr.outs-Concat c.in-Concat.parts) tt) c.joined.ensures

pub expression-returns-in-Union-clause-shape : goal.expression-returns-in-Union-clause-shape
expression-returns-in-Union-clause-shape t c =
    if_ok c.joined-in-Union.result (λ core h. shape_at c.args.expr.now (Expr-F.Union c.in-Union.parts) core (ap out-Expr c.in-Union.is ∙ expr.outs-Union c.in-Union.parts) tt) c.joined-in-Union.ensures

pub expression-returns-in_ok-expression-in-Comparison-clause-shape : goal.expression-returns-in_ok-expression-in-Comparison-clause-shape
expression-returns-in_ok-expression-in-Comparison-clause-shape t c =
    if_ok c.operation.result (λ core h. shape_at c.args.expr.now (Expr-F.Comparison c.in-Comparison.left c.in-Comparison.operator c.in-Comparison.right) core (ap out-Expr c.in-Comparison.is ∙ expr.outs-Comparison c.in-Comparison.left c.in-Comparison.operator c.in-Comparison.right) tt) c.operation.ensures

pub expression-returns-in_ok-expression-in-Range-clause-shape : goal.expression-returns-in_ok-expression-in-Range-clause-shape
expression-returns-in_ok-expression-in-Range-clause-shape t c =
    if_ok c.operation-in-Range.result (λ core h. shape_at c.args.expr.now (Expr-F.Range c.in-Range.left c.in-Range.right) core (ap out-Expr c.in-Range.is ∙ expr.outs-Range c.in-Range.left c.in-Range.right) tt) c.operation-in-Range.ensures

pub expression-returns-in_ok-first-in-Arrow-clause-shape : goal.expression-returns-in_ok-first-in-Arrow-clause-shape
expression-returns-in_ok-first-in-Arrow-clause-shape t c =
    if_ok c.arrow.result (λ core h. shape_at c.args.expr.now (Expr-F.Arrow c.in-Arrow.first c.in-Arrow.calls) core (ap out-Expr c.in-Arrow.is ∙ expr.outs-Arrow c.in-Arrow.first c.in-Arrow.calls) tt) c.arrow.ensures

pub expression-returns-in_ok-text-in-Str-clause-shape : goal.expression-returns-in_ok-text-in-Str-clause-shape
expression-returns-in_ok-text-in-Str-clause-shape t c =
    shape_at c.args.expr.now (Expr-F.Str c.in-Str.value) _ (ap out-Expr c.in-Str.is ∙ expr.outs-Str c.in-Str.value) (ap form.Str c.in_ok-text-in-Str.ensures)

pub expression-returns-in-Call-clause-shape : goal.expression-returns-in-Call-clause-shape
expression-returns-in-Call-clause-shape t c =
    if_ok c.call.result
    (λ core h. shape_at c.args.expr.now (Expr-F.Call c.in-Call.name c.in-Call.arguments) core (ap out-Expr c.in-Call.is ∙ expr.outs-Call c.in-Call.name c.in-Call.arguments)
    (subst (λ es. StaysCall c.in-Call.name es core) c.as_slice.ensures h))
    c.call.ensures.shape

pub expression-returns-in_ok-first-in-Path-clause-shape : goal.expression-returns-in_ok-first-in-Path-clause-shape
expression-returns-in_ok-first-in-Path-clause-shape t c =
    let first = c.in_ok-first-in-Path.first in
    let later = c.in_ok-later-in-Path.later in
    if_ok c.path.result
    (λ core h. shape_at c.args.expr.now (Expr-F.Path c.in-Path.start c.in-Path.first c.in-Path.more) core (ap out-Expr c.in-Path.is ∙ expr.outs-Path c.in-Path.start c.in-Path.first c.in-Path.more)
    (path_stays c.in-Path.start c.in-Path.first c.in-Path.more first later core
    (subst (λ s. StaysStep s first) c.get-in-Path.ensures c.in_ok-first-in-Path.ensures.plain)
    (subst (λ l. StaySteps l later) c.as_slice-in-Path.ensures c.in_ok-later-in-Path.ensures.plain) h))
    c.path.ensures.relative

pub expressions-loop-expr-init : goal.expressions-loop-expr-init
expressions-loop-expr-init t c =
    record { same = ap (map core_mean) c.new-cores.ensures; literals = λ values is. c.new-cores.ensures }

pub expressions-loop-expr-preserved : goal.expressions-loop-expr-preserved
expressions-loop-expr-preserved t c =
    let value = c.in_ok-expression.field-0 in
    record {
      same =
          ap (map core_mean) c.in_ok-push.ensures.ok
          ∙ map_next core_mean mean c.args.exprs.now c.loop-expr.expr-index c.loop-expr.cores value c.expr-item.result
          c.loop-expr.invariant.same (omega (arith, c.loop-expr-test.true)) c.expr-item.is c.in_ok-expression.ensures.same;
      literals =
          left_next expr.Str form.Str c.args.exprs.now c.loop-expr.expr-index c.loop-expr.cores c.loop-expr.invariant.literals c.push.new.self value c.expr-item.result
          (omega (arith, c.loop-expr-test.true)) c.expr-item.is
          (λ v is. c.in_ok-push.ensures.ok ∙ ap (λ x. c.loop-expr.cores ++ x ∷ []) (literal_stays c.expr-item.result v value c.in_ok-expression.ensures.shape is));
    }

pub expressions-returns-clause-same : goal.expressions-returns-clause-same
expressions-returns-clause-same t c =
    map_done core_mean mean c.args.exprs.now c.loop-expr.expr-index c.loop-expr.cores c.loop-expr.invariant.same (omega (arith, c.loop-expr-test.false))

pub expressions-returns-clause-literals : goal.expressions-returns-clause-literals
expressions-returns-clause-literals t c =
    left_done expr.Str form.Str c.args.exprs.now c.loop-expr.expr-index c.loop-expr.cores c.loop-expr.invariant.literals (omega (arith, c.loop-expr-test.false))

pub steps-loop-separator-init : goal.steps-loop-separator-init
steps-loop-separator-init t c =
    record { same = ap (map core_mean) c.new-found.ensures; plain = λ along is. c.new-found.ensures }

pub steps-loop-separator-preserved : goal.steps-loop-separator-preserved
steps-loop-separator-preserved t c =
    let y = c.loop-separator-item.result in
    let value = c.in_ok-step.field-0 in
    record {
      same =
          steps_next c.args.more.now c.loop-separator.separator-index c.loop-separator.found c.push_step.new.steps value y
          c.loop-separator.invariant.same (omega (arith, c.loop-separator-test.true)) c.loop-separator-item.is c.in_ok-push_step.ensures.same c.in_ok-step.ensures.same;
      plain =
          left_next after_slash plain_step c.args.more.now c.loop-separator.separator-index c.loop-separator.found c.loop-separator.invariant.plain c.push_step.new.steps value y
          (omega (arith, c.loop-separator-test.true)) c.loop-separator-item.is
          (λ along is. c.in_ok-push_step.ensures.slash (ap (λ s. s.0) is) ∙ ap (λ x. c.loop-separator.found ++ x ∷ []) (plain_stays y.1 along value c.in_ok-step.ensures.plain (ap (λ s. s.1) is)));
    }

pub steps-returns-clause-same : goal.steps-returns-clause-same
steps-returns-clause-same t c =
    c.loop-separator.invariant.same ∙ ap (λ l. later_parts (parts.steps l)) (take_all c.loop-separator.separator-index c.args.more.now (omega (arith, c.loop-separator-test.false)))

pub steps-returns-clause-plain : goal.steps-returns-clause-plain
steps-returns-clause-plain t c =
    left_done after_slash plain_step c.args.more.now c.loop-separator.separator-index c.loop-separator.found c.loop-separator.invariant.plain (omega (arith, c.loop-separator-test.false))

pub step-returns-in_ok-axis-in-Axis-clause-plain : goal.step-returns-in_ok-axis-in-Axis-clause-plain
step-returns-in_ok-axis-in-Axis-clause-plain t c =
    step_at c.args.step.now (Step-F.Axis c.in-Axis.along c.in-Axis.predicates) _ (ap out-Step c.in-Axis.is ∙ written.outs-Axis c.in-Axis.along c.in-Axis.predicates)
    (λ none. let empty = c.in_ok-predicates-in-Axis.ensures.literals [] (c.as_slice.ensures ∙ none) in
    (λ i. form.Step (c.in_ok-axis-in-Axis.ensures i).0 (c.in_ok-axis-in-Axis.ensures i).1 (empty i)))

pub step-returns-in_ok-primary-in-Primary-clause-plain : goal.step-returns-in_ok-primary-in-Primary-clause-plain
step-returns-in_ok-primary-in-Primary-clause-plain t c =
    let value = c.in_ok-primary-in-Primary.primary in
    if_ok c.filtered.result
    (λ core h. step_at c.args.step.now (Step-F.Primary c.in-Primary.primary c.in-Primary.predicates) core (ap out-Step c.in-Primary.is ∙ written.outs-Primary c.in-Primary.primary c.in-Primary.predicates)
    (λ none. subst (HasShape c.in-Primary.primary) (sym (h (c.in_ok-predicates-in-Primary.ensures.literals [] (c.as_slice-in-Primary.ensures ∙ none))))
    (subst (λ e. HasShape e value) c.get.ensures c.in_ok-primary-in-Primary.ensures.shape)))
    c.filtered.ensures.alone

pub call-returns-in_ok-expressions-in-Some-clause-shape : goal.call-returns-in_ok-expressions-in-Some-clause-shape
call-returns-in_ok-expressions-in-Some-clause-shape t c =
    λ function values named are.
    let same = same_some c.in-Some.function function (sym c.in-Some.is ∙ c.called.ensures ∙ named) in
    let literals = c.in_ok-expressions-in-Some.ensures.literals values are in
    (λ i. form.Call (same i) (literals i))

pub call-returns-in-None-clause-shape : goal.call-returns-in-None-clause-shape
call-returns-in-None-clause-shape t c =
    if_ok c.unknown_function.result
    (λ core h function values named are. absurd (none_some function (sym c.in-None.is ∙ c.called.ensures ∙ named)))
    c.unknown_function.ensures

-- # Measures

pub expression-arrow-requires : goal.expression-arrow-requires
expression-arrow-requires t c =
    let at : 4 * size-Expr c.args.expr.now ≡ t = c.decreases in
    let whole = ap size-Expr c.in-Arrow.is ∙ sized-Arrow c.in-Arrow.first c.in-Arrow.calls in
    let same = ap (most call_depth) c.as_slice-in-Arrow.ensures in
    let below : 4 * most call_depth c.as_slice-in-Arrow.result.now + 3 < t = omega (arith, at, whole, same) in
    (below, tt)

pub arrow-call_on-requires : goal.arrow-call_on-requires
arrow-call_on-requires t c =
    let at : 4 * most call_depth c.args.calls.now + 3 ≡ t = c.decreases in
    let among = at_most call_depth c.args.calls.now 0 c.next-item.result (omega (arith, c.in-len1-up.len_at_least)) in
    let this = ap call_depth c.next-item.is in
    let same = ap (most size-Expr) c.as_slice.ensures in
    let below : 4 * most size-Expr c.as_slice.result.now + 2 < t = omega (arith, at, among, this, same) in
    (below, tt)

pub later_calls-expressions-requires : goal.later_calls-expressions-requires
later_calls-expressions-requires t c =
    let at : 4 * most call_depth c.args.calls.now + 2 ≡ t = c.decreases in
    let among = at_most call_depth c.args.calls.now c.loop-name.name-index c.loop-name-item.result (omega (arith, c.loop-name-test.true)) in
    let this = ap call_depth c.loop-name-item.is in
    let same = ap (most size-Expr) c.as_slice-arguments.ensures in
    let below : 4 * most size-Expr c.as_slice-arguments.result.now + 1 < t = omega (arith, at, among, this, same) in
    (below, tt)
