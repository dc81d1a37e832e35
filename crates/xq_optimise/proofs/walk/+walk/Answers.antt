use Rattle.std.proofs.Common.{◌≡◌, ◌++◌, ◌∷◌, [], ◌<◌, ◌+◌, ◌*◌, List, sym, ◌∙◌, subst, refl, arith}
use Rattle.xq_meaning.specs.declared.plans.Plan.{Plan}
use Rattle.xq_meaning.specs.declared.plans.Plan.TheVariants as plan
use Rattle.xq_meaning.specs.declared.plans.PlanClause.{PlanClause}
use Rattle.xq_meaning.specs.declared.plans.PlanClause.TheVariants as clause
use Rattle.xq_meaning.specs.declared.plans.PlanStep.TheVariants as step
use Rattle.xq_meaning.specs.declared.plans.PlanClause.{size-PlanClause}
use denote.Param.Weighed.{most}
use Rattle.std.proofs.lemmas.Result.{IfOk-weaker, on_ok_weaker}
use Rattle.xq_optimise.specs.declared.held.Held.{Held}
use Rattle.xq_optimise.specs.Same.{GivesSame}
use Rattle.xq_optimise.specs.Sure.{SamePredicates}
use Rattle.xq_optimise.specs.private.Parts.{SameOperand, SameCall, SameKey, SameStep, SameClauses, IsHeld, Extends, AddsTests, with_position}
use Rattle.xq_optimise.proofs.Forms as forms
use Rattle.xq_optimise.proofs.Forms.{gives_at, known_at, all_known_at, itself, step_itself, each_gives}
use Rattle.xq_optimise.proofs.Flwor.{flwor_gives}
use Rattle.xq_optimise.specs.private.FlworParts.{StandsForFlwor, AreSteady}
use Rattle.xq_optimise.specs.private.Joins.{LeavesTrees}
use Rattle.xq_optimise.proofs.Conditionals.{flwor_stands}
use Rattle.xq_optimise.proofs.Splitting.{step_same_on}
use Rattle.xq_optimise.proofs.Ranges.{quantified_gives}
use Rattle.xq_optimise.proofs.JoinLaws.{join_adds}
use Rattle.xq_optimise.proofs.Loops.{left_next, turned_size, range_next, clause_added, tests_add, order_adds, count_adds, group_adds, adds_at, extends_itself, scope_kept, ranges_left}
use Rattle.xq_optimise.proofs.Elements.{on_ok}
use Rattle.xq_optimise.proofs.NestedReturns.{returns_alike, nested_stands}
use Rattle.xq_optimise.proofs.GroupJoins.{group_join_adds}
use Rattle.xq_optimise.proofs.GroupMatches.{range_adds, value_adds}
use Rattle.xq_optimise.specs.private.GroupValues.{AddsRange, AddsValue}
use Rattle.xq_optimise.proofs.walk.+walk.Goals as goal

pub expression-returns-in_ok-expressions-in-Sequence-clause-same : goal.expression-returns-in_ok-expressions-in-Sequence-clause-same
expression-returns-in_ok-expressions-in-Sequence-clause-same t c =
    gives_at c.args.known.now.items c.args.plan (plan.Sequence c.in-Sequence.list) (plan.Sequence c.in_ok-expressions-in-Sequence.field-0) c.in-Sequence.is
    (forms.sequence_gives c.args.known.now.items c.in-Sequence.list c.in_ok-expressions-in-Sequence.field-0 c.in_ok-expressions-in-Sequence.ensures.same)

pub expression-returns-in_ok-expressions-in-Or-clause-same : goal.expression-returns-in_ok-expressions-in-Or-clause-same
expression-returns-in_ok-expressions-in-Or-clause-same t c =
    gives_at c.args.known.now.items c.args.plan (plan.Or c.in-Or.list) (plan.Or c.in_ok-expressions-in-Or.field-0) c.in-Or.is
    (forms.or_gives c.args.known.now.items c.in-Or.list c.in_ok-expressions-in-Or.field-0 c.in_ok-expressions-in-Or.ensures.same)

pub expression-returns-in_ok-expressions-in-And-clause-same : goal.expression-returns-in_ok-expressions-in-And-clause-same
expression-returns-in_ok-expressions-in-And-clause-same t c =
    gives_at c.args.known.now.items c.args.plan (plan.And c.in-And.list) (plan.And c.in_ok-expressions-in-And.field-0) c.in-And.is
    (forms.and_gives c.args.known.now.items c.in-And.list c.in_ok-expressions-in-And.field-0 c.in_ok-expressions-in-And.ensures.same)

pub expression-returns-in_ok-expressions-in-Call-clause-same : goal.expression-returns-in_ok-expressions-in-Call-clause-same
expression-returns-in_ok-expressions-in-Call-clause-same t c =
    gives_at c.args.known.now.items c.args.plan (plan.Call c.in-Call.function c.in-Call.list) (plan.Call c.in-Call.function c.in_ok-expressions-in-Call.field-0) c.in-Call.is
    (forms.call_gives c.args.known.now.items c.in-Call.function c.in-Call.list c.in_ok-expressions-in-Call.field-0 c.in_ok-expressions-in-Call.ensures.same)

pub expression-returns-in_ok-more-in-Chain-clause-same : goal.expression-returns-in_ok-more-in-Chain-clause-same
expression-returns-in_ok-more-in-Chain-clause-same t c =
    let known = c.args.known.now.items in
    let chain = plan.Chain c.in_ok-first-in-Chain.first c.in_ok-more-in-Chain.more in
    IfOk-weaker c.with_position_first.result _ _
    (λ found h. gives_at known c.args.plan (plan.Chain c.in-Chain.first c.in-Chain.more) found c.in-Chain.is
    (forms.then_gives known (plan.Chain c.in-Chain.first c.in-Chain.more) chain found
    (forms.chain_gives known c.in-Chain.first c.in_ok-first-in-Chain.first c.in-Chain.more c.in_ok-more-in-Chain.more c.in_ok-first-in-Chain.ensures.same
    (all_known_at SameOperand known c.boxed.new.known.items c.in-Chain.more c.in_ok-more-in-Chain.more c.in_ok-first-in-Chain.ensures.kept c.in_ok-more-in-Chain.ensures.same))
    (h known))) c.with_position_first.ensures

pub expression-returns-in_ok-predicates-in-Filter-clause-same : goal.expression-returns-in_ok-predicates-in-Filter-clause-same
expression-returns-in_ok-predicates-in-Filter-clause-same t c =
    let known = c.args.known.now.items in
    let start = c.in_ok-start-in-Filter.start in
    let predicates = c.in_ok-predicates-in-Filter.predicates in
    let now = c.in_ok-predicates-in-Filter.ensures.kept ∙ c.in_ok-start-in-Filter.ensures.kept in
    IfOk-weaker c.filter.result _ _
    (λ found h. gives_at known c.args.plan (plan.Filter c.in-Filter.start c.in-Filter.predicates) found c.in-Filter.is
    (forms.then_gives known (plan.Filter c.in-Filter.start c.in-Filter.predicates) (plan.Filter start predicates) found
    (forms.filter_gives known c.in-Filter.start start c.in-Filter.predicates predicates c.in_ok-start-in-Filter.ensures.same
    (all_known_at GivesSame known c.boxed-in-Filter.new.known.items c.in-Filter.predicates predicates c.in_ok-start-in-Filter.ensures.kept c.in_ok-predicates-in-Filter.ensures.same))
    (subst (λ k. GivesSame k (plan.Filter start predicates) found) now h))) c.filter.ensures.same

pub expression-returns-in_ok-list-in-Path-clause-same : goal.expression-returns-in_ok-list-in-Path-clause-same
expression-returns-in_ok-list-in-Path-clause-same t c =
    let known = c.args.known.now.items in
    let start = c.in_ok-start-in-Path.start in
    let list = c.in_ok-list-in-Path.list in
    let now = c.in_ok-list-in-Path.ensures.kept ∙ c.in_ok-start-in-Path.ensures.kept in
    IfOk-weaker c.path.result _ _
    (λ found h. gives_at known c.args.plan (plan.Path c.in-Path.start c.in-Path.list) found c.in-Path.is
    (forms.then_gives known (plan.Path c.in-Path.start c.in-Path.list) (plan.Path start list) found
    (forms.path_gives known c.in-Path.start start c.in-Path.list list c.in_ok-start-in-Path.ensures.same
    (all_known_at SameStep known c.boxed-in-Path.new.known.items c.in-Path.list list c.in_ok-start-in-Path.ensures.kept c.in_ok-list-in-Path.ensures.same))
    (subst (λ k. GivesSame k (plan.Path start list) found) now h))) c.path.ensures.same

pub expression-returns-in_ok-calls-in-Arrow-clause-same : goal.expression-returns-in_ok-calls-in-Arrow-clause-same
expression-returns-in_ok-calls-in-Arrow-clause-same t c =
    gives_at c.args.known.now.items c.args.plan (plan.Arrow c.in-Arrow.first c.in-Arrow.list) (plan.Arrow c.in_ok-first-in-Arrow.first c.in_ok-calls-in-Arrow.field-0) c.in-Arrow.is
    (forms.arrow_gives c.args.known.now.items c.in-Arrow.first c.in_ok-first-in-Arrow.first c.in-Arrow.list c.in_ok-calls-in-Arrow.field-0 c.in_ok-first-in-Arrow.ensures.same
    (all_known_at SameCall c.args.known.now.items c.boxed-in-Arrow.new.known.items c.in-Arrow.list c.in_ok-calls-in-Arrow.field-0 c.in_ok-first-in-Arrow.ensures.kept c.in_ok-calls-in-Arrow.ensures.same))

pub expression-returns-in_ok-expressions-in-Map-clause-same : goal.expression-returns-in_ok-expressions-in-Map-clause-same
expression-returns-in_ok-expressions-in-Map-clause-same t c =
    gives_at c.args.known.now.items c.args.plan (plan.Map c.in-Map.start c.in-Map.list) (plan.Map c.in_ok-start-in-Map.start c.in_ok-expressions-in-Map.field-0) c.in-Map.is
    (forms.map_gives c.args.known.now.items c.in-Map.start c.in_ok-start-in-Map.start c.in-Map.list c.in_ok-expressions-in-Map.field-0 c.in_ok-start-in-Map.ensures.same
    (all_known_at GivesSame c.args.known.now.items c.boxed-in-Map.new.known.items c.in-Map.list c.in_ok-expressions-in-Map.field-0 c.in_ok-start-in-Map.ensures.kept c.in_ok-expressions-in-Map.ensures.same))

pub expression-returns-in_ok-boxed-in-Unary-clause-same : goal.expression-returns-in_ok-boxed-in-Unary-clause-same
expression-returns-in_ok-boxed-in-Unary-clause-same t c =
    gives_at c.args.known.now.items c.args.plan (plan.Unary c.in-Unary.signs c.in-Unary.part) (plan.Unary c.in-Unary.signs c.in_ok-boxed-in-Unary.field-0) c.in-Unary.is
    (forms.unary_gives c.args.known.now.items c.in-Unary.signs c.in-Unary.part c.in_ok-boxed-in-Unary.field-0 c.in_ok-boxed-in-Unary.ensures.same)

pub expression-returns-in_ok-kept-in-Step-clause-same : goal.expression-returns-in_ok-kept-in-Step-clause-same
expression-returns-in_ok-kept-in-Step-clause-same t c =
    let known = c.args.known.now.items in
    let step_of = plan.Step c.in-Step.axis c.in-Step.test in
    let predicates = c.in_ok-predicates-in-Step.predicates in
    let found = c.in_ok-kept-in-Step.kept in
    gives_at known c.args.plan (step_of c.in-Step.predicates) (step_of found) c.in-Step.is
    (forms.then_gives known (step_of c.in-Step.predicates) (step_of predicates) (step_of found)
    (forms.step_gives known c.in-Step.axis c.in-Step.test c.in-Step.predicates predicates c.in_ok-predicates-in-Step.ensures.same)
    (step_same_on known c.in-Step.axis c.in-Step.test predicates found
    (subst (λ k. SamePredicates k predicates found) (c.deref.ensures.value ∙ c.in_ok-predicates-in-Step.ensures.kept) c.in_ok-kept-in-Step.ensures)))

pub expression-returns-in_ok-negative-in-If-clause-same : goal.expression-returns-in_ok-negative-in-If-clause-same
expression-returns-in_ok-negative-in-If-clause-same t c =
    subst (λ p. GivesSame c.args.known.now.items c.args.plan p) (sym c.conditional.ensures)
    (gives_at c.args.known.now.items c.args.plan (plan.If c.in-If.test c.in-If.positive c.in-If.negative) (plan.If c.in_ok-test-in-If.test c.in_ok-positive-in-If.positive c.in_ok-negative-in-If.negative) c.in-If.is
    (forms.if_gives c.args.known.now.items c.in-If.test c.in-If.positive c.in-If.negative c.in_ok-test-in-If.test c.in_ok-positive-in-If.positive c.in_ok-negative-in-If.negative
    c.in_ok-test-in-If.ensures.same
    (known_at c.args.known.now.items c.boxed-in-If.new.known.items c.in-If.positive c.in_ok-positive-in-If.positive c.in_ok-test-in-If.ensures.kept c.in_ok-positive-in-If.ensures.same)
    (known_at c.args.known.now.items c.boxed-in-If-2.new.known.items c.in-If.negative c.in_ok-negative-in-If.negative (c.in_ok-positive-in-If.ensures.kept ∙ c.in_ok-test-in-If.ensures.kept) c.in_ok-negative-in-If.ensures.same)))

pub expression-returns-in_ok-boxed-in-Named-clause-same : goal.expression-returns-in_ok-boxed-in-Named-clause-same
expression-returns-in_ok-boxed-in-Named-clause-same t c =
    gives_at c.args.known.now.items c.args.plan (plan.Named c.in-Named.node c.in-Named.name c.in-Named.content) (plan.Named c.in-Named.node c.in_ok-name-in-Named.name c.in_ok-boxed-in-Named.field-0) c.in-Named.is
    (forms.named_gives c.args.known.now.items c.in-Named.node c.in-Named.name c.in-Named.content c.in_ok-name-in-Named.name c.in_ok-boxed-in-Named.field-0 c.in_ok-name-in-Named.ensures.same
    (known_at c.args.known.now.items c.boxed-in-Named.new.known.items c.in-Named.content c.in_ok-boxed-in-Named.field-0 c.in_ok-name-in-Named.ensures.kept c.in_ok-boxed-in-Named.ensures.same))

pub expression-returns-in_ok-boxed-in-Unnamed-clause-same : goal.expression-returns-in_ok-boxed-in-Unnamed-clause-same
expression-returns-in_ok-boxed-in-Unnamed-clause-same t c =
    gives_at c.args.known.now.items c.args.plan (plan.Unnamed c.in-Unnamed.node c.in-Unnamed.content) (plan.Unnamed c.in-Unnamed.node c.in_ok-boxed-in-Unnamed.field-0) c.in-Unnamed.is
    (forms.unnamed_gives c.args.known.now.items c.in-Unnamed.node c.in-Unnamed.content c.in_ok-boxed-in-Unnamed.field-0 c.in_ok-boxed-in-Unnamed.ensures.same)

pub expression-returns-in_ok-part-in-Quantified-clause-same : goal.expression-returns-in_ok-part-in-Quantified-clause-same
expression-returns-in_ok-part-in-Quantified-clause-same t c =
    let known = c.args.known.now.items in
    let old = plan.Quantified c.in-Quantified.quantifier c.in-Quantified.list c.in-Quantified.part in
    let new = plan.Quantified c.in-Quantified.quantifier c.in_ok-list-in-Quantified.list c.in_ok-part-in-Quantified.part in
    let kept = ranges_left c.len-outer.result known c.ranges-in-Quantified.new.known.items c.boxed-in-Quantified.new.known.items c.truncate.new.self.items c.in-Quantified.list c.in_ok-list-in-Quantified.list
    (c.len-outer.ensures ∙ c.args.known.now.ok.0) c.in_ok-list-in-Quantified.ensures.same c.in_ok-part-in-Quantified.ensures.kept c.truncate.ensures.items in
    IfOk-weaker c.quantified.result _ _
    (λ found h. gives_at known c.args.plan old found c.in-Quantified.is
    (forms.then_gives known old new found
    (quantified_gives known c.ranges-in-Quantified.new.known.items c.in-Quantified.quantifier c.in-Quantified.list c.in_ok-list-in-Quantified.list c.in-Quantified.part c.in_ok-part-in-Quantified.part
    c.in_ok-list-in-Quantified.ensures.same c.in_ok-part-in-Quantified.ensures.same)
    (subst (λ k. GivesSame k new found) (c.deref-in-Quantified.ensures.value ∙ kept) h)))
    c.quantified.ensures

pub expression-returns-in_ok-part-in-Quantified-clause-kept : goal.expression-returns-in_ok-part-in-Quantified-clause-kept
expression-returns-in_ok-part-in-Quantified-clause-kept t c =
    on_ok c.quantified.result
    (ranges_left c.len-outer.result c.args.known.now.items c.ranges-in-Quantified.new.known.items c.boxed-in-Quantified.new.known.items c.truncate.new.self.items c.in-Quantified.list c.in_ok-list-in-Quantified.list
    (c.len-outer.ensures ∙ c.args.known.now.ok.0) c.in_ok-list-in-Quantified.ensures.same c.in_ok-part-in-Quantified.ensures.kept c.truncate.ensures.items)

-- # Loops

pub expressions-loop-part-preserved : goal.expressions-loop-part-preserved
expressions-loop-part-preserved t c =
    left_next GivesSame c.args.list c.loop-part.left c.pop.new.self c.args.known.now.items c.loop-part.known.items c.expression.new.known.items c.loop-part.found.items c.push.new.self.items c.in-Some.part c.in_ok-expression.field-0
    c.loop-part.invariant c.in-Some.ensures c.in_ok-expression.ensures.same c.in_ok-expression.ensures.kept c.in_ok-push.ensures.items

pub operands-loop-operator-preserved : goal.operands-loop-operator-preserved
operands-loop-operator-preserved t c =
    left_next SameOperand c.args.list c.loop-operator.left c.pop.new.self c.args.known.now.items c.loop-operator.known.items c.expression.new.known.items c.loop-operator.found.items c.push.new.self.items (c.in-Some.operator, c.in-Some.operand) (c.in-Some.operator, c.in_ok-operand.operand)
    c.loop-operator.invariant c.in-Some.ensures (refl, c.in_ok-operand.ensures.same) c.in_ok-operand.ensures.kept c.in_ok-push.ensures.items

pub steps-loop-part-preserved : goal.steps-loop-part-preserved
steps-loop-part-preserved t c =
    left_next SameStep c.args.list c.loop-part.left c.pop.new.self c.args.known.now.items c.loop-part.known.items c.step.new.known.items c.loop-part.found.items c.push.new.self.items c.in-Some.part c.in_ok-step.field-0
    c.loop-part.invariant c.in-Some.ensures c.in_ok-step.ensures.same c.in_ok-step.ensures.kept c.in_ok-push.ensures.items

pub keys-loop-key-preserved : goal.keys-loop-key-preserved
keys-loop-key-preserved t c =
    left_next SameKey c.args.list c.loop-key.left c.pop.new.self c.args.known.now.items c.loop-key.known.items c.expression.new.known.items c.loop-key.found.items c.push.new.self.items (c.in-Some.key, c.in-Some.modifier) (c.in_ok-key.key, c.in-Some.modifier)
    c.loop-key.invariant c.in-Some.ensures (c.in_ok-key.ensures.same, refl) c.in_ok-key.ensures.kept c.in_ok-push.ensures.items

pub step-returns-in_ok-expression-in-Each-clause-same : goal.step-returns-in_ok-expression-in-Each-clause-same
step-returns-in_ok-expression-in-Each-clause-same t c =
    subst (λ s. SameStep c.args.known.now.items s (step.Each c.in_ok-expression-in-Each.field-0)) (sym c.in-Each.is)
    (each_gives c.args.known.now.items c.in-Each.part c.in_ok-expression-in-Each.field-0 c.in_ok-expression-in-Each.ensures.same)

pub ranges-loop-range-preserved : goal.ranges-loop-range-preserved
ranges-loop-range-preserved t c =
    range_next c.args.list c.loop-range.left.items c.pop.new.self.items c.args.known.now.items c.expression.new.known.items c.loop-range.known.items c.bind.new.known.items c.loop-range.found c.push.new.self c.in-Some.range c.in_ok-range.range
    c.loop-range.invariant c.in-Some.ensures.items c.in_ok-range.ensures.same c.in_ok-range.ensures.kept c.held_by-held.result
    (subst (λ k. IsHeld k c.held_by-held.result c.in_ok-range.range) c.deref.ensures.value c.held_by-held.ensures)
    (subst (λ (h : Held). c.bind.new.known.items ≡ c.expression.new.known.items ++ h ∷ []) c.of_each.ensures c.in_ok-bind.ensures) c.in_ok-push.ensures.ok

-- # Clauses

pub flwor-returns-clause-same : goal.flwor-returns-clause-same
flwor-returns-clause-same t c =
    let known = c.args.known.now.items in
    let last = c.clauses.new.known.items in
    let list = c.in_ok-list.list in
    let part = c.args.part in
    let whole = c.in_ok-whole.whole in
    let start = c.len-outer.ensures ∙ c.args.known.now.ok.0 in
    let follow = subst (λ n. SameClauses n known c.args.list list last) start c.in_ok-list.ensures.same in
    let kept = scope_kept c.len-outer.result known last c.returned.new.known.items c.truncate.new.self.items start
    c.in_ok-list.ensures.outer.outer c.in_ok-whole.ensures.outer.outer c.truncate.ensures.items in
    IfOk-weaker c.joined.result _ _
    (λ found h. forms.then_gives known (plan.Flwor c.args.list part) (plan.Flwor list part) found
    (flwor_gives known last c.args.list list part part follow (λ slots focus addresses trees fits. refl))
    (forms.then_gives known (plan.Flwor list part) whole found
    (flwor_stands known last c.args.list list part whole follow
    (subst (λ n. StandsForFlwor n last list part whole) start c.in_ok-whole.ensures.stands))
    (subst (λ k. GivesSame k whole found) kept h)))
    c.joined.ensures.same

pub flwor-returns-clause-kept : goal.flwor-returns-clause-kept
flwor-returns-clause-kept t c =
    on_ok_weaker c.joined.result
    (λ h. h ∙ scope_kept c.len-outer.result c.args.known.now.items c.clauses.new.known.items c.returned.new.known.items c.truncate.new.self.items (c.len-outer.ensures ∙ c.args.known.now.ok.0)
    c.in_ok-list.ensures.outer.outer c.in_ok-whole.ensures.outer.outer c.truncate.ensures.items)
    c.joined.ensures.kept

pub returned-returns-in_ok-part-in_default : goal.returned-returns-in_ok-part-in_default
returned-returns-in_ok-part-in_default t c =
    let known = c.args.known.now.items in
    let list = c.args.list in
    let other = c.into_inner.result in
    let part = c.in_ok-part-in_default.part in
    let is : c.args.part ≡ other = sym c.into_inner.ensures in
    record {
      stands =
          IfOk-weaker c.with_return.result _ _
          (λ found h. subst (λ (p : Plan). StandsForFlwor c.args.outer known list p found) (sym is)
          (returns_alike c.args.outer known list other part found c.in_ok-part-in_default.ensures.same
          (subst (λ (k : List Held). StandsForFlwor c.args.outer k list part found) (c.deref.ensures.value ∙ c.in_ok-part-in_default.ensures.kept) h)))
          c.with_return.ensures;
      outer =
          on_ok c.with_return.result
          (subst (Extends c.args.outer known) (sym c.in_ok-part-in_default.ensures.kept) (extends_itself c.args.outer known c.requires));
    }

pub nested-returns-then-not-branch-clause-stands : goal.nested-returns-then-not-branch-clause-stands
nested-returns-then-not-branch-clause-stands t c =
    let known = c.args.known.now.items in
    let part = c.in_ok-part.part in
    IfOk-weaker c.with_return.result _ _
    (λ found h. returns_alike c.args.outer known c.args.list (plan.Flwor c.args.more c.args.last) part found c.in_ok-part.ensures.same
    (subst (λ (k : List Held). StandsForFlwor c.args.outer k c.args.list part found) (c.deref-then-not-branch.ensures.value ∙ c.in_ok-part.ensures.kept) h))
    c.with_return.ensures

pub nested-returns-clause-stands : goal.nested-returns-clause-stands
nested-returns-clause-stands t c =
    let known = c.args.known.now.items in
    let told = c.in_ok-goes_on.ensures c.if-not-branch.false in
    let steady = subst (λ (k : List Held). AreSteady c.args.outer k c.args.more) c.deref.ensures.value
    (subst (λ (l : List PlanClause). AreSteady c.args.outer c.deref.result.now l) c.as_slice.ensures told.0) in
    IfOk-weaker c.returned.result _ _
    (λ found h. nested_stands c.args.outer known c.clauses.new.known.items c.args.list c.args.more c.in_ok-more.more c.append.new.self c.args.last found
    steady (subst LeavesTrees c.get.ensures told.1) c.in_ok-more.ensures.same c.in_ok-append.ensures h)
    c.returned.ensures.stands

pub clauses-loop-next-preserved : goal.clauses-loop-next-preserved
clauses-loop-next-preserved t c =
    clause_added c.args.list c.loop-next.left.items c.pop.new.self.items c.args.outer c.args.known.now.items c.loop-next.known.items c.clause.new.known.items c.loop-next.found c.in_ok-found.found c.in-Some.next
    c.loop-next.invariant c.in-Some.ensures.items c.in_ok-found.ensures.same c.in_ok-found.ensures.outer

pub clauses-clause-requires : goal.clauses-clause-requires
clauses-clause-requires t c =
    let at : 4 * most size-PlanClause c.args.list + 1 ≡ t = c.decreases in
    let among = turned_size size-PlanClause c.args.list c.loop-next.left.items c.loop-next.invariant.taken c.pop.new.self.items c.in-Some.next c.loop-next.invariant.whole c.in-Some.ensures.items in
    let below : 4 * size-PlanClause c.in-Some.next < t = omega (arith, at, among) in
    (below, c.loop-next.invariant.outer.within)

-- # What a clause adds

pub clause-returns-in_ok-bind-in-For-clause-same : goal.clause-returns-in_ok-bind-in-For-clause-same
clause-returns-in_ok-bind-in-For-clause-same t c =
    let range = c.in_ok-range-in-For.range in
    let found = c.in_ok-found-in-For.found in
    adds_at c.args.outer c.args.known.now.items c.args.next (clause.For c.in-For.empties c.in-For.at c.in-For.range) c.args.found found c.bind.new.known.items c.in-For.is
    (range_adds c.args.outer c.args.known.now.items c.expression.new.known.items c.bind.new.known.items c.in-For.empties c.in-For.at c.in-For.range range c.args.found found
    c.in_ok-range-in-For.ensures.same c.in_ok-range-in-For.ensures.kept c.held_by-held.result
    (subst (λ k. IsHeld k c.held_by-held.result range) c.deref.ensures.value c.held_by-held.ensures)
    (subst (λ (h : Held). c.bind.new.known.items ≡ c.expression.new.known.items ++ with_position h c.in-For.at) c.of_each.ensures c.in_ok-bind-in-For.ensures)
    (subst (λ (k : List Held). AddsRange c.args.outer k c.in-For.empties c.in-For.at range c.args.found found) c.deref-in-For.ensures.value c.in_ok-found-in-For.ensures))

pub clause-returns-in_ok-bind-in-Let-clause-same : goal.clause-returns-in_ok-bind-in-Let-clause-same
clause-returns-in_ok-bind-in-Let-clause-same t c =
    let value = c.in_ok-value-in-Let.value in
    let found = c.in_ok-found-in-Let.found in
    adds_at c.args.outer c.args.known.now.items c.args.next (clause.Let c.in-Let.value) c.args.found found c.bind-in-Let.new.known.items c.in-Let.is
    (value_adds c.args.outer c.args.known.now.items c.expression-in-Let.new.known.items c.bind-in-Let.new.known.items c.in-Let.value value c.args.found found
    c.in_ok-value-in-Let.ensures.same c.in_ok-value-in-Let.ensures.kept c.held_by-held-in-Let.result
    (subst (λ k. IsHeld k c.held_by-held-in-Let.result value) c.deref-in-Let.ensures.value c.held_by-held-in-Let.ensures) c.in_ok-bind-in-Let.ensures
    (subst (λ (k : List Held). AddsValue c.args.outer k value c.args.found found) c.deref-in-Let-2.ensures.value c.in_ok-found-in-Let.ensures))

pub clause-returns-in_ok-test-in-Where-clause-same : goal.clause-returns-in_ok-test-in-Where-clause-same
clause-returns-in_ok-test-in-Where-clause-same t c =
    IfOk-weaker c.with_tests.result _ _
    (λ after h. adds_at c.args.outer c.args.known.now.items c.args.next (clause.Where c.in-Where.test) c.args.found after c.expression-in-Where.new.known.items c.in-Where.is
    (tests_add c.args.outer c.args.known.now.items c.expression-in-Where.new.known.items c.in-Where.test c.in_ok-test-in-Where.test c.args.found after
    c.in_ok-test-in-Where.ensures.same c.in_ok-test-in-Where.ensures.kept
    (subst (λ k. AddsTests k c.in_ok-test-in-Where.test c.args.found after) c.deref-in-Where.ensures.value h)))
    c.with_tests.ensures

pub clause-returns-in_ok-forget-in-Group-clause-same : goal.clause-returns-in_ok-forget-in-Group-clause-same
clause-returns-in_ok-forget-in-Group-clause-same t c =
    IfOk-weaker c.pushed-in-Group.result _ _
    (λ after h. adds_at c.args.outer c.args.known.now.items c.args.next (clause.Group c.in-Group.slots) c.args.found after c.forget.new.known.items c.in-Group.is
    (group_adds c.args.outer c.args.known.now.items c.forget.new.known.items c.in-Group.slots c.args.found after c.in_ok-forget-in-Group.ensures h))
    c.pushed-in-Group.ensures

pub clause-returns-in_ok-list-in-Order-clause-same : goal.clause-returns-in_ok-list-in-Order-clause-same
clause-returns-in_ok-list-in-Order-clause-same t c =
    IfOk-weaker c.pushed-in-Order.result _ _
    (λ after h. adds_at c.args.outer c.args.known.now.items c.args.next (clause.Order c.in-Order.list) c.args.found after c.keys.new.known.items c.in-Order.is
    (order_adds c.args.outer c.args.known.now.items c.keys.new.known.items c.in-Order.list c.in_ok-list-in-Order.list c.args.found after
    c.in_ok-list-in-Order.ensures.same c.in_ok-list-in-Order.ensures.kept h))
    c.pushed-in-Order.ensures

pub clause-returns-in_ok-push-in-Join-clause-same : goal.clause-returns-in_ok-push-in-Join-clause-same
clause-returns-in_ok-push-in-Join-clause-same t c =
    IfOk-weaker c.pushed.result _ _
    (λ after h. adds_at c.args.outer c.args.known.now.items c.args.next (clause.Join c.in-Join.range c.in-Join.join) c.args.found after c.push.new.self.items c.in-Join.is
    (join_adds c.args.outer c.args.known.now.items c.push.new.self.items c.in-Join.range c.in-Join.join c.args.found after c.in_ok-push-in-Join.ensures.items h))
    c.pushed.ensures

pub clause-returns-in_ok-push-in-GroupJoin-clause-same : goal.clause-returns-in_ok-push-in-GroupJoin-clause-same
clause-returns-in_ok-push-in-GroupJoin-clause-same t c =
    IfOk-weaker c.pushed-in-GroupJoin.result _ _
    (λ after h. adds_at c.args.outer c.args.known.now.items c.args.next (clause.GroupJoin c.in-GroupJoin.range c.in-GroupJoin.join) c.args.found after c.push-in-GroupJoin.new.self.items c.in-GroupJoin.is
    (group_join_adds c.args.outer c.args.known.now.items c.push-in-GroupJoin.new.self.items c.in-GroupJoin.range c.in-GroupJoin.join c.args.found after c.in_ok-push-in-GroupJoin.ensures.items h))
    c.pushed-in-GroupJoin.ensures

pub clause-returns-in_ok-push-in-Count-clause-same : goal.clause-returns-in_ok-push-in-Count-clause-same
clause-returns-in_ok-push-in-Count-clause-same t c =
    IfOk-weaker c.pushed-in-Count.result _ _
    (λ after h. adds_at c.args.outer c.args.known.now.items c.args.next clause.Count c.args.found after c.push-in-Count.new.self.items c.in-Count.is
    (count_adds c.args.outer c.args.known.now.items c.push-in-Count.new.self.items c.args.found after c.in_ok-push-in-Count.ensures.items h))
    c.pushed-in-Count.ensures
