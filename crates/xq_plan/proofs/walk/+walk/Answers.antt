use Rattle.std.proofs.Common.{◌≡◌, ◌<◌, ◌+◌, ◌*◌, ◌++◌, List, ◌∷◌, [], map, sym, ap, ◌∙◌, subst, refl, arith, rules, to_z, of_z, w64}
use Rattle.xq_meaning.specs.Meaning.{position_name}
use Rattle.xq_meaning.specs.declared.normal_forms.Core.TheVariants as core
use Rattle.xq_meaning.specs.declared.normal_forms.CoreClause.TheVariants as clause
use Rattle.xq_meaning.specs.declared.plans.Plan.TheVariants as plan
use Rattle.xq_meaning.specs.declared.plans.PlanClause.TheVariants as plan_clause
use Rattle.xq_meaning.specs.Same.{IsPlan}
use Rattle.xq_plan.specs.private.Plans.{AreAll, AreRanges, AreClauses, IsClause, IsNextCall, IsOperand, IsStep, IsKey}
use Rattle.xq_expressions.specs.declared.signatures.Function.{Function}
use Rattle.xq_meaning.specs.declared.normal_forms.Core.{Core, out-Core, size-Core}
use Rattle.xq_meaning.specs.declared.normal_forms.Core.TheOpen.{Core-F}
use Rattle.xq_plan.specs.private.Shapes.{IsLiteral, IsCall, IsScan}
use Rattle.xq_plan.proofs.Forms as forms
use Rattle.xq_plan.proofs.Shapes.{IsPart, IsStepOrScan, shape_at, all_are, step_shape, scan_of}
use Rattle.xq_plan.proofs.Walks.{left_next, left_done, range_next, ranges_done, clause_next, clauses_done, for_clause, let_clause, where_clause, order_clause, flwor_is, quantified_is, as_is, part_at, list_at, asked}
use denote.Param.Weighed.{most, at_most}
use Prim.Native.Nat.{max}
use Rattle.xq_plan.proofs.walk.+walk.Goals as goal

pub expression-returns-in_ok-expressions-in-Sequence-clause-planned : goal.expression-returns-in_ok-expressions-in-Sequence-clause-planned
expression-returns-in_ok-expressions-in-Sequence-clause-planned t c =
    as_is c.args.scope.now c.args.core.now (core.Sequence c.in-Sequence.parts) (plan.Sequence c.in_ok-expressions-in-Sequence.field-0) (c.in-Sequence.is)
    (forms.sequence_plan c.args.scope.now c.in-Sequence.parts c.in_ok-expressions-in-Sequence.field-0 (list_at IsPlan c.args.scope.now c.args.scope.now c.as_slice.result.now c.in-Sequence.parts c.in_ok-expressions-in-Sequence.field-0 (refl) c.as_slice.ensures c.in_ok-expressions-in-Sequence.ensures.planned))

pub expression-returns-in_ok-expressions-in-Or-clause-planned : goal.expression-returns-in_ok-expressions-in-Or-clause-planned
expression-returns-in_ok-expressions-in-Or-clause-planned t c =
    as_is c.args.scope.now c.args.core.now (core.Or c.in-Or.parts) (plan.Or c.in_ok-expressions-in-Or.field-0) (c.in-Or.is)
    (forms.or_plan c.args.scope.now c.in-Or.parts c.in_ok-expressions-in-Or.field-0 (list_at IsPlan c.args.scope.now c.args.scope.now c.as_slice-in-Or.result.now c.in-Or.parts c.in_ok-expressions-in-Or.field-0 (refl) c.as_slice-in-Or.ensures c.in_ok-expressions-in-Or.ensures.planned))

pub expression-returns-in_ok-expressions-in-And-clause-planned : goal.expression-returns-in_ok-expressions-in-And-clause-planned
expression-returns-in_ok-expressions-in-And-clause-planned t c =
    as_is c.args.scope.now c.args.core.now (core.And c.in-And.parts) (plan.And c.in_ok-expressions-in-And.field-0) (c.in-And.is)
    (forms.and_plan c.args.scope.now c.in-And.parts c.in_ok-expressions-in-And.field-0 (list_at IsPlan c.args.scope.now c.args.scope.now c.as_slice-in-And.result.now c.in-And.parts c.in_ok-expressions-in-And.field-0 (refl) c.as_slice-in-And.ensures c.in_ok-expressions-in-And.ensures.planned))

pub expression-returns-in_ok-expressions-in-Call-clause-planned : goal.expression-returns-in_ok-expressions-in-Call-clause-planned
expression-returns-in_ok-expressions-in-Call-clause-planned t c =
    as_is c.args.scope.now c.args.core.now (core.Call c.in-Call.function c.in-Call.parts) (plan.Call c.in-Call.function c.in_ok-expressions-in-Call.field-0) (c.in-Call.is)
    (forms.call_plan c.args.scope.now c.in-Call.function c.in-Call.parts c.in_ok-expressions-in-Call.field-0 (list_at IsPlan c.args.scope.now c.args.scope.now c.as_slice-in-Call.result.now c.in-Call.parts c.in_ok-expressions-in-Call.field-0 (refl) c.as_slice-in-Call.ensures c.in_ok-expressions-in-Call.ensures.planned))

pub expression-returns-in_ok-calls-in-Arrow-clause-planned : goal.expression-returns-in_ok-calls-in-Arrow-clause-planned
expression-returns-in_ok-calls-in-Arrow-clause-planned t c =
    as_is c.args.scope.now c.args.core.now (core.Arrow c.in-Arrow.first c.in-Arrow.list) (plan.Arrow c.in_ok-first-in-Arrow.first c.in_ok-calls-in-Arrow.field-0) (c.in-Arrow.is)
    (forms.arrow_plan c.args.scope.now c.in-Arrow.first c.in-Arrow.list c.in_ok-first-in-Arrow.first c.in_ok-calls-in-Arrow.field-0
    (part_at c.args.scope.now c.args.scope.now c.get-in-Arrow.result.now c.in-Arrow.first c.in_ok-first-in-Arrow.first (refl) c.get-in-Arrow.ensures c.in_ok-first-in-Arrow.ensures.planned)
    (list_at IsNextCall c.boxed-in-Arrow.new.scope c.args.scope.now c.as_slice-in-Arrow.result.now c.in-Arrow.list c.in_ok-calls-in-Arrow.field-0 (c.in_ok-first-in-Arrow.ensures.kept) c.as_slice-in-Arrow.ensures c.in_ok-calls-in-Arrow.ensures.planned))

pub expression-returns-in_ok-expressions-in-Map-clause-planned : goal.expression-returns-in_ok-expressions-in-Map-clause-planned
expression-returns-in_ok-expressions-in-Map-clause-planned t c =
    as_is c.args.scope.now c.args.core.now (core.Map c.in-Map.start c.in-Map.parts) (plan.Map c.in_ok-start-in-Map.start c.in_ok-expressions-in-Map.field-0) (c.in-Map.is)
    (forms.map_plan c.args.scope.now c.in-Map.start c.in-Map.parts c.in_ok-start-in-Map.start c.in_ok-expressions-in-Map.field-0
    (part_at c.args.scope.now c.args.scope.now c.get-in-Map.result.now c.in-Map.start c.in_ok-start-in-Map.start (refl) c.get-in-Map.ensures c.in_ok-start-in-Map.ensures.planned)
    (list_at IsPlan c.boxed-in-Map.new.scope c.args.scope.now c.as_slice-in-Map.result.now c.in-Map.parts c.in_ok-expressions-in-Map.field-0 (c.in_ok-start-in-Map.ensures.kept) c.as_slice-in-Map.ensures c.in_ok-expressions-in-Map.ensures.planned))

pub expression-returns-in_ok-operands-in-Chain-clause-planned : goal.expression-returns-in_ok-operands-in-Chain-clause-planned
expression-returns-in_ok-operands-in-Chain-clause-planned t c =
    as_is c.args.scope.now c.args.core.now (core.Chain c.in-Chain.first c.in-Chain.more) (plan.Chain c.in_ok-first-in-Chain.first c.in_ok-operands-in-Chain.field-0) (c.in-Chain.is)
    (forms.chain_plan c.args.scope.now c.in-Chain.first c.in-Chain.more c.in_ok-first-in-Chain.first c.in_ok-operands-in-Chain.field-0
    (part_at c.args.scope.now c.args.scope.now c.get.result.now c.in-Chain.first c.in_ok-first-in-Chain.first (refl) c.get.ensures c.in_ok-first-in-Chain.ensures.planned)
    (list_at IsOperand c.boxed.new.scope c.args.scope.now c.as_slice-in-Chain.result.now c.in-Chain.more c.in_ok-operands-in-Chain.field-0 (c.in_ok-first-in-Chain.ensures.kept) c.as_slice-in-Chain.ensures c.in_ok-operands-in-Chain.ensures.planned))

pub expression-returns-in_ok-boxed-in-Unary-clause-planned : goal.expression-returns-in_ok-boxed-in-Unary-clause-planned
expression-returns-in_ok-boxed-in-Unary-clause-planned t c =
    as_is c.args.scope.now c.args.core.now (core.Unary c.in_ok-signs-in-Unary.signs c.in-Unary.part) (plan.Unary c.in_ok-signs-in-Unary.signs c.in_ok-boxed-in-Unary.field-0) (c.in-Unary.is ∙ ap (λ s. core.Unary s c.in-Unary.part) (sym (c.in_ok-signs-in-Unary.ensures ∙ c.as_slice-in-Unary.ensures)))
    (forms.unary_plan c.args.scope.now c.in_ok-signs-in-Unary.signs c.in-Unary.part c.in_ok-boxed-in-Unary.field-0 (part_at c.args.scope.now c.args.scope.now c.get-in-Unary.result.now c.in-Unary.part c.in_ok-boxed-in-Unary.field-0 (refl) c.get-in-Unary.ensures c.in_ok-boxed-in-Unary.ensures.planned))

pub expression-returns-in_ok-tested-in-Step-clause-planned : goal.expression-returns-in_ok-tested-in-Step-clause-planned
expression-returns-in_ok-tested-in-Step-clause-planned t c =
    as_is c.args.scope.now c.args.core.now (core.Step c.in-Step.axis c.in_ok-tested-in-Step.tested c.in-Step.predicates) (plan.Step c.in-Step.axis c.in_ok-tested-in-Step.tested c.in_ok-predicates-in-Step.predicates) (c.in-Step.is ∙ ap (λ s. core.Step c.in-Step.axis s c.in-Step.predicates) (sym c.in_ok-tested-in-Step.ensures))
    (forms.step_plan c.args.scope.now c.in-Step.axis c.in_ok-tested-in-Step.tested c.in-Step.predicates c.in_ok-predicates-in-Step.predicates (list_at IsPlan c.args.scope.now c.args.scope.now c.as_slice-in-Step.result.now c.in-Step.predicates c.in_ok-predicates-in-Step.predicates (refl) c.as_slice-in-Step.ensures c.in_ok-predicates-in-Step.ensures.planned))

pub expression-returns-in_ok-expressions-in-Filter-clause-planned : goal.expression-returns-in_ok-expressions-in-Filter-clause-planned
expression-returns-in_ok-expressions-in-Filter-clause-planned t c =
    as_is c.args.scope.now c.args.core.now (core.Filter c.in-Filter.start c.in-Filter.predicates) (plan.Filter c.in_ok-start-in-Filter.start c.in_ok-expressions-in-Filter.field-0) (c.in-Filter.is)
    (forms.filter_plan c.args.scope.now c.in-Filter.start c.in-Filter.predicates c.in_ok-start-in-Filter.start c.in_ok-expressions-in-Filter.field-0
    (part_at c.args.scope.now c.args.scope.now c.get-in-Filter.result.now c.in-Filter.start c.in_ok-start-in-Filter.start (refl) c.get-in-Filter.ensures c.in_ok-start-in-Filter.ensures.planned)
    (list_at IsPlan c.boxed-in-Filter.new.scope c.args.scope.now c.as_slice-in-Filter.result.now c.in-Filter.predicates c.in_ok-expressions-in-Filter.field-0 (c.in_ok-start-in-Filter.ensures.kept) c.as_slice-in-Filter.ensures c.in_ok-expressions-in-Filter.ensures.planned))

pub expression-returns-in_ok-steps-in-Path-clause-planned : goal.expression-returns-in_ok-steps-in-Path-clause-planned
expression-returns-in_ok-steps-in-Path-clause-planned t c =
    as_is c.args.scope.now c.args.core.now (core.Path c.in-Path.start c.in-Path.parts) (plan.Path c.in_ok-start-in-Path.start c.in_ok-steps-in-Path.field-0) (c.in-Path.is)
    (forms.path_plan c.args.scope.now c.in-Path.start c.in-Path.parts c.in_ok-start-in-Path.start c.in_ok-steps-in-Path.field-0
    (part_at c.args.scope.now c.args.scope.now c.get-in-Path.result.now c.in-Path.start c.in_ok-start-in-Path.start (refl) c.get-in-Path.ensures c.in_ok-start-in-Path.ensures.planned)
    (list_at IsStep c.boxed-in-Path.new.scope c.args.scope.now c.as_slice-in-Path.result.now c.in-Path.parts c.in_ok-steps-in-Path.field-0 (c.in_ok-start-in-Path.ensures.kept) c.as_slice-in-Path.ensures c.in_ok-steps-in-Path.ensures.planned))

pub expression-returns-in_ok-negative-in-If-clause-planned : goal.expression-returns-in_ok-negative-in-If-clause-planned
expression-returns-in_ok-negative-in-If-clause-planned t c =
    subst (λ p. IsPlan c.args.scope.now c.args.core.now p) (sym c.conditional.ensures)
    (as_is c.args.scope.now c.args.core.now (core.If c.in-If.condition c.in-If.positive c.in-If.negative) (plan.If c.in_ok-condition-in-If.condition c.in_ok-positive-in-If.positive c.in_ok-negative-in-If.negative) (c.in-If.is)
    (forms.if_plan c.args.scope.now c.in-If.condition c.in-If.positive c.in-If.negative c.in_ok-condition-in-If.condition c.in_ok-positive-in-If.positive c.in_ok-negative-in-If.negative
    (part_at c.args.scope.now c.args.scope.now c.get-in-If.result.now c.in-If.condition c.in_ok-condition-in-If.condition (refl) c.get-in-If.ensures c.in_ok-condition-in-If.ensures.planned)
    (part_at c.boxed-in-If.new.scope c.args.scope.now c.get-in-If-2.result.now c.in-If.positive c.in_ok-positive-in-If.positive (c.in_ok-condition-in-If.ensures.kept) c.get-in-If-2.ensures c.in_ok-positive-in-If.ensures.planned)
    (part_at c.boxed-in-If-2.new.scope c.args.scope.now c.get-in-If-3.result.now c.in-If.negative c.in_ok-negative-in-If.negative (c.in_ok-positive-in-If.ensures.kept ∙ c.in_ok-condition-in-If.ensures.kept) c.get-in-If-3.ensures c.in_ok-negative-in-If.ensures.planned)))

pub expression-returns-in_ok-boxed-in-Named-clause-planned : goal.expression-returns-in_ok-boxed-in-Named-clause-planned
expression-returns-in_ok-boxed-in-Named-clause-planned t c =
    as_is c.args.scope.now c.args.core.now (core.Named c.in-Named.node c.in-Named.name c.in-Named.content) (plan.Named c.in-Named.node c.in_ok-name-in-Named.name c.in_ok-boxed-in-Named.field-0) (c.in-Named.is)
    (forms.named_plan c.args.scope.now c.in-Named.node c.in-Named.name c.in-Named.content c.in_ok-name-in-Named.name c.in_ok-boxed-in-Named.field-0
    (part_at c.args.scope.now c.args.scope.now c.get-in-Named.result.now c.in-Named.name c.in_ok-name-in-Named.name (refl) c.get-in-Named.ensures c.in_ok-name-in-Named.ensures.planned)
    (part_at c.boxed-in-Named.new.scope c.args.scope.now c.get-in-Named-2.result.now c.in-Named.content c.in_ok-boxed-in-Named.field-0 (c.in_ok-name-in-Named.ensures.kept) c.get-in-Named-2.ensures c.in_ok-boxed-in-Named.ensures.planned))

pub expression-returns-in_ok-boxed-in-Unnamed-clause-planned : goal.expression-returns-in_ok-boxed-in-Unnamed-clause-planned
expression-returns-in_ok-boxed-in-Unnamed-clause-planned t c =
    as_is c.args.scope.now c.args.core.now (core.Unnamed c.in-Unnamed.node c.in-Unnamed.content) (plan.Unnamed c.in-Unnamed.node c.in_ok-boxed-in-Unnamed.field-0) (c.in-Unnamed.is)
    (forms.unnamed_plan c.args.scope.now c.in-Unnamed.node c.in-Unnamed.content c.in_ok-boxed-in-Unnamed.field-0 (part_at c.args.scope.now c.args.scope.now c.get-in-Unnamed.result.now c.in-Unnamed.content c.in_ok-boxed-in-Unnamed.field-0 (refl) c.get-in-Unnamed.ensures c.in_ok-boxed-in-Unnamed.ensures.planned))

pub expression-returns-in_ok-part-in-Flwor-clause-planned : goal.expression-returns-in_ok-part-in-Flwor-clause-planned
expression-returns-in_ok-part-in-Flwor-clause-planned t c =
    as_is c.args.scope.now c.args.core.now (core.Flwor c.in-Flwor.list c.in-Flwor.part) (plan.Flwor c.in_ok-list-in-Flwor.list c.in_ok-part-in-Flwor.part) (c.in-Flwor.is)
    (flwor_is c.len-start.result c.args.scope.now c.clauses.new.scope c.in-Flwor.list c.in_ok-list-in-Flwor.list c.in-Flwor.part c.in_ok-part-in-Flwor.part c.len-start.ensures
    (subst (λ cs. AreClauses c.len-start.result c.args.scope.now cs c.in_ok-list-in-Flwor.list c.clauses.new.scope) c.as_slice-in-Flwor.ensures c.in_ok-list-in-Flwor.ensures.planned)
    c.in_ok-list-in-Flwor.ensures.outer
    (subst (λ k. IsPlan c.clauses.new.scope k c.in_ok-part-in-Flwor.part) c.get-in-Flwor.ensures c.in_ok-part-in-Flwor.ensures.planned))

pub expression-returns-in_ok-part-in-Quantified-clause-planned : goal.expression-returns-in_ok-part-in-Quantified-clause-planned
expression-returns-in_ok-part-in-Quantified-clause-planned t c =
    as_is c.args.scope.now c.args.core.now (core.Quantified c.in-Quantified.quantifier c.in-Quantified.bindings c.in-Quantified.part) (plan.Quantified c.in-Quantified.quantifier c.in_ok-sequences-in-Quantified.sequences c.in_ok-part-in-Quantified.part) (c.in-Quantified.is)
    (quantified_is c.args.scope.now c.ranges-in-Quantified.new.scope c.in-Quantified.quantifier c.in-Quantified.bindings c.in-Quantified.part c.in_ok-sequences-in-Quantified.sequences c.in_ok-part-in-Quantified.part
    (subst (λ bs. AreRanges c.args.scope.now bs c.in_ok-sequences-in-Quantified.sequences) c.as_slice-in-Quantified.ensures c.in_ok-sequences-in-Quantified.ensures.planned)
    (c.in_ok-sequences-in-Quantified.ensures.bound ∙ ap (λ bs. c.args.scope.now ++ map (λ b. b.0) bs) c.as_slice-in-Quantified.ensures)
    (subst (λ k. IsPlan c.ranges-in-Quantified.new.scope k c.in_ok-part-in-Quantified.part) c.get-in-Quantified.ensures c.in_ok-part-in-Quantified.ensures.planned))

pub expression-returns-in-Int-clause-planned : goal.expression-returns-in-Int-clause-planned
expression-returns-in-Int-clause-planned t c =
    let e : to_z w64 (of_z w64 c.in-Int.value) ≡ c.in-Int.value = search rules in
    subst (λ n. IsPlan c.args.scope.now c.args.core.now (plan.Int n)) (sym e)
    (as_is c.args.scope.now c.args.core.now (core.Int c.in-Int.value) (plan.Int c.in-Int.value) (c.in-Int.is) (forms.int_plan c.args.scope.now c.in-Int.value))

pub expression-returns-in-Dec-clause-planned : goal.expression-returns-in-Dec-clause-planned
expression-returns-in-Dec-clause-planned t c =
    as_is c.args.scope.now c.args.core.now (core.Dec c.in-Dec.value) (plan.Dec c.in-Dec.value) (c.in-Dec.is)
    (forms.dec_plan c.args.scope.now c.in-Dec.value)

pub expression-returns-in_ok-text-in-Str-clause-planned : goal.expression-returns-in_ok-text-in-Str-clause-planned
expression-returns-in_ok-text-in-Str-clause-planned t c =
    as_is c.args.scope.now c.args.core.now (core.Str c.in_ok-text-in-Str.field-0) (plan.Str c.in_ok-text-in-Str.field-0) (c.in-Str.is ∙ ap core.Str (sym c.in_ok-text-in-Str.ensures))
    (forms.str_plan c.args.scope.now c.in_ok-text-in-Str.field-0)

pub expression-returns-in-Root-clause-planned : goal.expression-returns-in-Root-clause-planned
expression-returns-in-Root-clause-planned t c =
    as_is c.args.scope.now c.args.core.now (core.Root) (plan.Root) (c.in-Root.is)
    (forms.root_plan c.args.scope.now)

pub expression-returns-in-ContextItem-clause-planned : goal.expression-returns-in-ContextItem-clause-planned
expression-returns-in-ContextItem-clause-planned t c =
    as_is c.args.scope.now c.args.core.now (core.ContextItem) (plan.ContextItem) (c.in-ContextItem.is)
    (forms.context_plan c.args.scope.now)

pub clause-returns-in_ok-expression-in-Where-clause-planned : goal.clause-returns-in_ok-expression-in-Where-clause-planned
clause-returns-in_ok-expression-in-Where-clause-planned t c =
    subst (λ k. IsClause c.args.start c.args.scope.now k (plan_clause.Where c.in_ok-expression-in-Where.field-0) c.expression.new.scope) (sym c.in-Where.is)
    (where_clause c.args.start c.args.scope.now c.requires c.in-Where.condition c.in_ok-expression-in-Where.field-0 c.expression.new.scope c.in_ok-expression-in-Where.ensures.planned c.in_ok-expression-in-Where.ensures.kept)

pub clause-returns-in_ok-keys-in-Order-clause-planned : goal.clause-returns-in_ok-keys-in-Order-clause-planned
clause-returns-in_ok-keys-in-Order-clause-planned t c =
    subst (λ k. IsClause c.args.start c.args.scope.now k (plan_clause.Order c.in_ok-keys-in-Order.field-0) c.keys.new.scope) (sym c.in-Order.is)
    (order_clause c.args.start c.args.scope.now c.requires c.in-Order.specs c.in_ok-keys-in-Order.field-0 c.keys.new.scope (list_at IsKey c.args.scope.now c.args.scope.now c.as_slice-in-Order.result.now c.in-Order.specs c.in_ok-keys-in-Order.field-0 refl c.as_slice-in-Order.ensures c.in_ok-keys-in-Order.ensures.planned) c.in_ok-keys-in-Order.ensures.kept)

pub range-returns-clause-planned : goal.range-returns-clause-planned
range-returns-clause-planned t c =
    let is : c.bind.new.scope ≡ c.args.scope.now ++ c.args.variable.now ∷ position_name c.args.at.now =
    c.in_ok-bind.ensures ∙ ap (λ ns. ns ++ c.args.variable.now ∷ position_name c.args.at.now) c.in_ok-sequence.ensures.kept in
    subst (λ b. IsClause c.args.start c.args.scope.now (clause.For c.args.variable.now c.args.empties c.args.at.now c.args.sequence.now) (plan_clause.For c.args.empties b c.in_ok-sequence.sequence) c.bind.new.scope)
    (sym (c.is_some.ensures ∙ asked c.args.at.now))
    (for_clause c.args.start c.args.scope.now c.requires c.args.variable.now c.args.empties c.args.at.now c.args.sequence.now c.in_ok-sequence.sequence c.bind.new.scope c.in_ok-sequence.ensures.planned is)

pub assignment-returns-clause-planned : goal.assignment-returns-clause-planned
assignment-returns-clause-planned t c =
    let is : c.bind.new.self ≡ c.args.scope.now ++ c.args.variable.now ∷ [] =
    c.in_ok-bind.ensures.bound ∙ ap (λ v. c.expression.new.scope ++ v ∷ []) c.as_str.ensures ∙ ap (λ ns. ns ++ c.args.variable.now ∷ []) c.in_ok-value.ensures.kept in
    let_clause c.args.start c.args.scope.now c.requires c.args.variable.now c.args.value.now c.in_ok-value.value c.bind.new.self c.in_ok-value.ensures.planned is

pub expressions-loop-core-preserved : goal.expressions-loop-core-preserved
expressions-loop-core-preserved t c =
    left_next IsPart c.args.cores.now c.loop-core.core-index c.args.scope.now c.loop-core.scope c.loop-core.found c.loop-core.invariant c.expression.new.scope c.core-item.result c.in_ok-expression.field-0 c.push.new.self
    (omega (arith, c.loop-core-test.true)) c.core-item.is (c.in_ok-expression.ensures.planned, c.in_ok-expression.ensures.shape.0) c.in_ok-expression.ensures.kept c.in_ok-push.ensures.ok

pub expressions-returns-clause-planned : goal.expressions-returns-clause-planned
expressions-returns-clause-planned t c =
    all_are (IsPart c.args.scope.now) (IsPlan c.args.scope.now) (λ x y h. h.0) c.args.cores.now c.loop-core.found
    (left_done IsPart c.args.cores.now c.loop-core.core-index c.args.scope.now c.loop-core.scope c.loop-core.found c.loop-core.invariant (omega (arith, c.loop-core-test.false)))

pub expressions-returns-clause-literals : goal.expressions-returns-clause-literals
expressions-returns-clause-literals t c =
    all_are (IsPart c.args.scope.now) IsLiteral (λ x y h. h.1) c.args.cores.now c.loop-core.found
    (left_done IsPart c.args.cores.now c.loop-core.core-index c.args.scope.now c.loop-core.scope c.loop-core.found c.loop-core.invariant (omega (arith, c.loop-core-test.false)))

pub calls-loop-function-preserved : goal.calls-loop-function-preserved
calls-loop-function-preserved t c =
    left_next IsNextCall c.args.list.now c.loop-function.function-index c.args.scope.now c.loop-function.scope c.loop-function.found c.loop-function.invariant c.expressions.new.scope c.loop-function-item.result (c.loop-function-item.result.0, c.in_ok-expressions.field-0) c.push.new.self
    (omega (arith, c.loop-function-test.true)) c.loop-function-item.is
    (refl, subst (λ cs. AreAll (IsPlan c.loop-function.scope) cs c.in_ok-expressions.field-0) c.as_slice.ensures c.in_ok-expressions.ensures.planned) c.in_ok-expressions.ensures.kept c.in_ok-push.ensures.ok

pub calls-returns-clause-planned : goal.calls-returns-clause-planned
calls-returns-clause-planned t c =
    left_done IsNextCall c.args.list.now c.loop-function.function-index c.args.scope.now c.loop-function.scope c.loop-function.found c.loop-function.invariant (omega (arith, c.loop-function-test.false))

pub operands-loop-operator-preserved : goal.operands-loop-operator-preserved
operands-loop-operator-preserved t c =
    left_next IsOperand c.args.list.now c.loop-operator.operator-index c.args.scope.now c.loop-operator.scope c.loop-operator.found c.loop-operator.invariant c.expression.new.scope c.loop-operator-item.result (c.loop-operator-item.result.0, c.in_ok-expression.field-0) c.push.new.self
    (omega (arith, c.loop-operator-test.true)) c.loop-operator-item.is (refl, c.in_ok-expression.ensures.planned) c.in_ok-expression.ensures.kept c.in_ok-push.ensures.ok

pub operands-returns-clause-planned : goal.operands-returns-clause-planned
operands-returns-clause-planned t c =
    left_done IsOperand c.args.list.now c.loop-operator.operator-index c.args.scope.now c.loop-operator.scope c.loop-operator.found c.loop-operator.invariant (omega (arith, c.loop-operator-test.false))

pub steps-loop-part-preserved : goal.steps-loop-part-preserved
steps-loop-part-preserved t c =
    left_next IsStepOrScan c.args.parts.now c.loop-part.part-index c.args.scope.now c.loop-part.scope c.loop-part.found c.loop-part.invariant c.expression.new.scope c.part-item.result c.step.result c.push.new.self
    (omega (arith, c.loop-part-test.true)) c.part-item.is (forms.part_step c.loop-part.scope c.part-item.result c.in_ok-expression.field-0 c.step.result c.in_ok-expression.ensures.planned c.step.ensures.same, scan_of c.part-item.result c.in_ok-expression.field-0 c.step.result c.in_ok-expression.ensures.shape.2 c.step.ensures.scan) c.in_ok-expression.ensures.kept c.in_ok-push.ensures.ok

pub steps-returns-clause-planned : goal.steps-returns-clause-planned
steps-returns-clause-planned t c =
    all_are (IsStepOrScan c.args.scope.now) (IsStep c.args.scope.now) (λ x y h. h.0) c.args.parts.now c.loop-part.found
    (left_done IsStepOrScan c.args.parts.now c.loop-part.part-index c.args.scope.now c.loop-part.scope c.loop-part.found c.loop-part.invariant (omega (arith, c.loop-part-test.false)))

pub steps-returns-clause-scans : goal.steps-returns-clause-scans
steps-returns-clause-scans t c =
    all_are (IsStepOrScan c.args.scope.now) IsScan (λ x y h. h.1) c.args.parts.now c.loop-part.found
    (left_done IsStepOrScan c.args.parts.now c.loop-part.part-index c.args.scope.now c.loop-part.scope c.loop-part.found c.loop-part.invariant (omega (arith, c.loop-part-test.false)))

pub keys-loop-key-preserved : goal.keys-loop-key-preserved
keys-loop-key-preserved t c =
    left_next IsKey c.args.specs.now c.loop-key.key-index c.args.scope.now c.loop-key.scope c.loop-key.found c.loop-key.invariant c.expression.new.scope c.loop-key-item.result (c.in_ok-expression.field-0, c.loop-key-item.result.1) c.push.new.self
    (omega (arith, c.loop-key-test.true)) c.loop-key-item.is (c.in_ok-expression.ensures.planned, refl) c.in_ok-expression.ensures.kept c.in_ok-push.ensures.ok

pub keys-returns-clause-planned : goal.keys-returns-clause-planned
keys-returns-clause-planned t c =
    left_done IsKey c.args.specs.now c.loop-key.key-index c.args.scope.now c.loop-key.scope c.loop-key.found c.loop-key.invariant (omega (arith, c.loop-key-test.false))

pub ranges-loop-variable-preserved : goal.ranges-loop-variable-preserved
ranges-loop-variable-preserved t c =
    range_next c.args.bindings.now c.loop-variable.variable-index c.args.scope.now c.loop-variable.scope c.loop-variable.found c.loop-variable.invariant c.expression.new.scope c.bind.new.self c.loop-variable-item.result c.in_ok-expression.field-0 c.push.new.self
    (omega (arith, c.loop-variable-test.true)) c.loop-variable-item.is c.in_ok-expression.ensures.planned c.in_ok-expression.ensures.kept (c.in_ok-bind.ensures.bound ∙ ap (λ v. c.expression.new.scope ++ v ∷ []) c.as_str.ensures) c.in_ok-push.ensures.ok

pub ranges-returns-clause-planned : goal.ranges-returns-clause-planned
ranges-returns-clause-planned t c =
    ranges_done c.args.bindings.now c.loop-variable.variable-index c.args.scope.now c.loop-variable.scope c.loop-variable.found c.loop-variable.invariant (omega (arith, c.loop-variable-test.false))

pub clauses-loop-next-preserved : goal.clauses-loop-next-preserved
clauses-loop-next-preserved t c =
    clause_next c.args.list.now c.args.start c.loop-next.next-index c.args.scope.now c.loop-next.scope c.loop-next.found c.loop-next.invariant c.clause.new.scope c.next-item.result c.in_ok-clause.field-0 c.push.new.self
    (omega (arith, c.loop-next-test.true)) c.next-item.is c.in_ok-clause.ensures.planned c.in_ok-clause.ensures.outer c.in_ok-push.ensures.ok

pub clauses-returns-clause-planned : goal.clauses-returns-clause-planned
clauses-returns-clause-planned t c =
    clauses_done c.args.list.now c.args.start c.loop-next.next-index c.args.scope.now c.loop-next.scope c.loop-next.found c.loop-next.invariant (omega (arith, c.loop-next-test.false))

pub expression-returns-in_ok-expressions-in-Sequence-clause-shape : goal.expression-returns-in_ok-expressions-in-Sequence-clause-shape
expression-returns-in_ok-expressions-in-Sequence-clause-shape t c =
    shape_at c.args.core.now (Core-F.Sequence c.in-Sequence.parts) _ (ap out-Core (c.in-Sequence.is) ∙ core.outs-Sequence c.in-Sequence.parts)
    (tt, tt, tt, tt)

pub expression-returns-in_ok-expressions-in-Or-clause-shape : goal.expression-returns-in_ok-expressions-in-Or-clause-shape
expression-returns-in_ok-expressions-in-Or-clause-shape t c =
    shape_at c.args.core.now (Core-F.Or c.in-Or.parts) _ (ap out-Core (c.in-Or.is) ∙ core.outs-Or c.in-Or.parts)
    (tt, tt, tt, tt)

pub expression-returns-in_ok-expressions-in-And-clause-shape : goal.expression-returns-in_ok-expressions-in-And-clause-shape
expression-returns-in_ok-expressions-in-And-clause-shape t c =
    shape_at c.args.core.now (Core-F.And c.in-And.parts) _ (ap out-Core (c.in-And.is) ∙ core.outs-And c.in-And.parts)
    (tt, tt, tt, tt)

pub expression-returns-in_ok-expressions-in-Call-clause-shape : goal.expression-returns-in_ok-expressions-in-Call-clause-shape
expression-returns-in_ok-expressions-in-Call-clause-shape t c =
    shape_at c.args.core.now (Core-F.Call c.in-Call.function c.in-Call.parts) _ (ap out-Core (c.in-Call.is) ∙ core.outs-Call c.in-Call.function c.in-Call.parts)
    (tt, (c.in_ok-expressions-in-Call.field-0, refl, subst (λ cs. AreAll IsLiteral cs c.in_ok-expressions-in-Call.field-0) c.as_slice-in-Call.ensures c.in_ok-expressions-in-Call.ensures.literals), tt, tt)

pub expression-returns-in_ok-calls-in-Arrow-clause-shape : goal.expression-returns-in_ok-calls-in-Arrow-clause-shape
expression-returns-in_ok-calls-in-Arrow-clause-shape t c =
    shape_at c.args.core.now (Core-F.Arrow c.in-Arrow.first c.in-Arrow.list) _ (ap out-Core (c.in-Arrow.is) ∙ core.outs-Arrow c.in-Arrow.first c.in-Arrow.list)
    (tt, tt, tt, tt)

pub expression-returns-in_ok-expressions-in-Map-clause-shape : goal.expression-returns-in_ok-expressions-in-Map-clause-shape
expression-returns-in_ok-expressions-in-Map-clause-shape t c =
    shape_at c.args.core.now (Core-F.Map c.in-Map.start c.in-Map.parts) _ (ap out-Core (c.in-Map.is) ∙ core.outs-Map c.in-Map.start c.in-Map.parts)
    (tt, tt, tt, tt)

pub expression-returns-in_ok-operands-in-Chain-clause-shape : goal.expression-returns-in_ok-operands-in-Chain-clause-shape
expression-returns-in_ok-operands-in-Chain-clause-shape t c =
    shape_at c.args.core.now (Core-F.Chain c.in-Chain.first c.in-Chain.more) _ (ap out-Core (c.in-Chain.is) ∙ core.outs-Chain c.in-Chain.first c.in-Chain.more)
    (tt, tt, tt, tt)

pub expression-returns-in_ok-boxed-in-Unary-clause-shape : goal.expression-returns-in_ok-boxed-in-Unary-clause-shape
expression-returns-in_ok-boxed-in-Unary-clause-shape t c =
    shape_at c.args.core.now (Core-F.Unary c.in_ok-signs-in-Unary.signs c.in-Unary.part) _ (ap out-Core (c.in-Unary.is ∙ ap (λ s. core.Unary s c.in-Unary.part) (sym (c.in_ok-signs-in-Unary.ensures ∙ c.as_slice-in-Unary.ensures))) ∙ core.outs-Unary c.in_ok-signs-in-Unary.signs c.in-Unary.part)
    (tt, tt, tt, tt)

pub expression-returns-in_ok-tested-in-Step-clause-shape : goal.expression-returns-in_ok-tested-in-Step-clause-shape
expression-returns-in_ok-tested-in-Step-clause-shape t c =
    shape_at c.args.core.now (Core-F.Step c.in-Step.axis c.in_ok-tested-in-Step.tested c.in-Step.predicates) _ (ap out-Core (c.in-Step.is ∙ ap (λ s. core.Step c.in-Step.axis s c.in-Step.predicates) (sym c.in_ok-tested-in-Step.ensures)) ∙ core.outs-Step c.in-Step.axis c.in_ok-tested-in-Step.tested c.in-Step.predicates)
    (tt, tt, step_shape IsLiteral c.in-Step.axis c.in_ok-tested-in-Step.tested c.in-Step.predicates c.in_ok-predicates-in-Step.predicates (subst (λ cs. AreAll IsLiteral cs c.in_ok-predicates-in-Step.predicates) c.as_slice-in-Step.ensures c.in_ok-predicates-in-Step.ensures.literals), tt)

pub expression-returns-in_ok-expressions-in-Filter-clause-shape : goal.expression-returns-in_ok-expressions-in-Filter-clause-shape
expression-returns-in_ok-expressions-in-Filter-clause-shape t c =
    shape_at c.args.core.now (Core-F.Filter c.in-Filter.start c.in-Filter.predicates) _ (ap out-Core (c.in-Filter.is) ∙ core.outs-Filter c.in-Filter.start c.in-Filter.predicates)
    (tt, tt, tt, tt)

pub expression-returns-in_ok-steps-in-Path-clause-shape : goal.expression-returns-in_ok-steps-in-Path-clause-shape
expression-returns-in_ok-steps-in-Path-clause-shape t c =
    shape_at c.args.core.now (Core-F.Path c.in-Path.start c.in-Path.parts) _ (ap out-Core (c.in-Path.is) ∙ core.outs-Path c.in-Path.start c.in-Path.parts)
    (tt, tt, tt, (c.in_ok-start-in-Path.start, c.in_ok-steps-in-Path.field-0, refl, subst (λ k. IsCall k c.in_ok-start-in-Path.start) c.get-in-Path.ensures c.in_ok-start-in-Path.ensures.shape.1, subst (λ cs. AreAll IsScan cs c.in_ok-steps-in-Path.field-0) c.as_slice-in-Path.ensures c.in_ok-steps-in-Path.ensures.scans))

pub expression-returns-in_ok-negative-in-If-clause-shape : goal.expression-returns-in_ok-negative-in-If-clause-shape
expression-returns-in_ok-negative-in-If-clause-shape t c =
    shape_at c.args.core.now (Core-F.If c.in-If.condition c.in-If.positive c.in-If.negative) _ (ap out-Core (c.in-If.is) ∙ core.outs-If c.in-If.condition c.in-If.positive c.in-If.negative)
    (tt, tt, tt, tt)

pub expression-returns-in_ok-boxed-in-Named-clause-shape : goal.expression-returns-in_ok-boxed-in-Named-clause-shape
expression-returns-in_ok-boxed-in-Named-clause-shape t c =
    shape_at c.args.core.now (Core-F.Named c.in-Named.node c.in-Named.name c.in-Named.content) _ (ap out-Core (c.in-Named.is) ∙ core.outs-Named c.in-Named.node c.in-Named.name c.in-Named.content)
    (tt, tt, tt, tt)

pub expression-returns-in_ok-boxed-in-Unnamed-clause-shape : goal.expression-returns-in_ok-boxed-in-Unnamed-clause-shape
expression-returns-in_ok-boxed-in-Unnamed-clause-shape t c =
    shape_at c.args.core.now (Core-F.Unnamed c.in-Unnamed.node c.in-Unnamed.content) _ (ap out-Core (c.in-Unnamed.is) ∙ core.outs-Unnamed c.in-Unnamed.node c.in-Unnamed.content)
    (tt, tt, tt, tt)

pub expression-returns-in_ok-part-in-Flwor-clause-shape : goal.expression-returns-in_ok-part-in-Flwor-clause-shape
expression-returns-in_ok-part-in-Flwor-clause-shape t c =
    shape_at c.args.core.now (Core-F.Flwor c.in-Flwor.list c.in-Flwor.part) _ (ap out-Core (c.in-Flwor.is) ∙ core.outs-Flwor c.in-Flwor.list c.in-Flwor.part)
    (tt, tt, tt, tt)

pub expression-returns-in_ok-part-in-Quantified-clause-shape : goal.expression-returns-in_ok-part-in-Quantified-clause-shape
expression-returns-in_ok-part-in-Quantified-clause-shape t c =
    shape_at c.args.core.now (Core-F.Quantified c.in-Quantified.quantifier c.in-Quantified.bindings c.in-Quantified.part) _ (ap out-Core (c.in-Quantified.is) ∙ core.outs-Quantified c.in-Quantified.quantifier c.in-Quantified.bindings c.in-Quantified.part)
    (tt, tt, tt, tt)

pub expression-returns-in-Int-clause-shape : goal.expression-returns-in-Int-clause-shape
expression-returns-in-Int-clause-shape t c =
    shape_at c.args.core.now (Core-F.Int c.in-Int.value) _ (ap out-Core (c.in-Int.is) ∙ core.outs-Int c.in-Int.value)
    (tt, tt, tt, tt)

pub expression-returns-in-Dec-clause-shape : goal.expression-returns-in-Dec-clause-shape
expression-returns-in-Dec-clause-shape t c =
    shape_at c.args.core.now (Core-F.Dec c.in-Dec.value) _ (ap out-Core (c.in-Dec.is) ∙ core.outs-Dec c.in-Dec.value)
    (tt, tt, tt, tt)

pub expression-returns-in_ok-text-in-Str-clause-shape : goal.expression-returns-in_ok-text-in-Str-clause-shape
expression-returns-in_ok-text-in-Str-clause-shape t c =
    shape_at c.args.core.now (Core-F.Str c.in_ok-text-in-Str.field-0) _ (ap out-Core (c.in-Str.is ∙ ap core.Str (sym c.in_ok-text-in-Str.ensures)) ∙ core.outs-Str c.in_ok-text-in-Str.field-0)
    (refl, tt, tt, tt)

pub expression-returns-in-Root-clause-shape : goal.expression-returns-in-Root-clause-shape
expression-returns-in-Root-clause-shape t c =
    shape_at c.args.core.now (Core-F.Root) _ (ap out-Core (c.in-Root.is) ∙ core.outs-Root)
    (tt, tt, tt, tt)

pub expression-returns-in-ContextItem-clause-shape : goal.expression-returns-in-ContextItem-clause-shape
expression-returns-in-ContextItem-clause-shape t c =
    shape_at c.args.core.now (Core-F.ContextItem) _ (ap out-Core (c.in-ContextItem.is) ∙ core.outs-ContextItem)
    (tt, tt, tt, tt)

-- the others in a call after an arrow are no deeper than the calls
pub calls-expressions-requires : goal.calls-expressions-requires
calls-expressions-requires t c =
    let depth = λ (o : Function × List Core). max 0 (max (most size-Core o.1) 0) in
    let at : 3 * most depth c.args.list.now + 2 ≡ t = c.decreases in
    let among = at_most depth c.args.list.now c.loop-function.function-index c.loop-function-item.result (omega (arith, c.loop-function-test.true)) in
    let this = ap depth c.loop-function-item.is in
    let same = ap (most size-Core) c.as_slice.ensures in
    let below : 3 * most size-Core c.as_slice.result.now + 1 < t = omega (arith, at, among, this, same) in
    (below, tt)
