use Rattle.std.proofs.Common.{◌≡◌, ◌∷◌, [], subst, map, List, Ok, Err}
use Rattle.std.specs.Prelude.{IfSome}
use Rattle.std.specs.List.{AllByRecursion}
use Rattle.xq_trees.specs.declared.Axis.TheVariants.{Child, DescendantOrSelf}
use Rattle.xq_meaning.specs.declared.node_tests.Test.TheVariants.{Any}
use Rattle.xq_trees.specs.Items.{item_view}
use Rattle.xq_trees.specs.Tree.{Tree}
use Rattle.xq_meaning.specs.declared.plans.Plan.TheVariants as plan
use Rattle.xq_meaning.specs.declared.plans.PlanStep.TheVariants as plan_step
use Rattle.xq_tuples.specs.Views.{values_of}
use Rattle.xq_meaning.specs.Doing.{go_on}
use Rattle.xq_meaning.specs.Forms as Forms
use Rattle.xq_meaning.specs.PlanMeaning.{plan_step_mean}
use Rattle.xq_meaning.specs.Readings.{items_at, AreIn}
use Rattle.xq_operators.specs.Views.{tuple_at}
use Rattle.xq_operators.proofs.Growth.{goes_on_to}
use Rattle.xq_joins.specs.Equalities.{leads_to_text, IsNodeOf, IsTreeAt, IsValueTest}
use Rattle.xq_joins.specs.declared.equalities.TextTest.{TextTest}
use Rattle.xq_eval.specs.private.Texts.{GivesFound}
use Rattle.xq_eval.proofs.Steps.{same_goes}
use Rattle.xq_eval.proofs.TextSteps.{value_given, found_stop}
use Rattle.xq_eval.proofs.texts.below_by_value.Goals as goal

pub returns-clause-gives : goal.returns-clause-gives
returns-clause-gives g c = λ clean items_in meant env.
    let f = g.W.TreeSource.forest c.args.world.now in
    let f1 = g.W.TreeSource.forest c.value_test_at.new.world in
    let f' = g.W.TreeSource.forest c.double_slash_by_text.new.world in
    let slots = values_of c.args.frame.slots.now in
    let p = c.args.step.predicate.now in
    let test = c.in-Some.predicate in
    let of = c.args.step.test.now in
    let views = map item_view c.args.items.now in
    let was = c.double_slash_by_text.ensures.goes.was_clean clean in
    let is : IsValueTest slots test p = subst (λ r. IfSome r (λ (t : TextTest). IsValueTest slots t p)) c.in-Some.is c.in_ok-predicate.ensures.test in
    let nodes : AllByRecursion (IsNodeOf (IsTreeAt f)) views = subst (λ r. IfSome r (λ (t : TextTest). AllByRecursion (IsNodeOf (IsTreeAt f)) views)) c.in-Some.is (c.in_ok-predicate.ensures.trees was) in
    value_given (λ t. leads_to_text t test) slots p is meant f f1 f' c.value_test_at.ensures.keeps env of views items_in nodes (Ok c.in_ok-double_slash_by_text.field-0)
    (λ a b d. c.in_ok-double_slash_by_text.ensures.in_trees clean a b slots p meant is d)

pub returns-in_err-double_slash_by_text-clause-gives : goal.returns-in_err-double_slash_by_text-clause-gives
returns-in_err-double_slash_by_text-clause-gives g c = λ clean items_in meant env.
    let f = g.W.TreeSource.forest c.args.world.now in
    let f1 = g.W.TreeSource.forest c.value_test_at.new.world in
    let f' = g.W.TreeSource.forest c.double_slash_by_text.new.world in
    let slots = values_of c.args.frame.slots.now in
    let p = c.args.step.predicate.now in
    let test = c.in-Some.predicate in
    let of = c.args.step.test.now in
    let views = map item_view c.args.items.now in
    let was = c.double_slash_by_text.ensures.goes.was_clean clean in
    let is : IsValueTest slots test p = subst (λ r. IfSome r (λ (t : TextTest). IsValueTest slots t p)) c.in-Some.is c.in_ok-predicate.ensures.test in
    let nodes : AllByRecursion (IsNodeOf (IsTreeAt f)) views = subst (λ r. IfSome r (λ (t : TextTest). AllByRecursion (IsNodeOf (IsTreeAt f)) views)) c.in-Some.is (c.in_ok-predicate.ensures.trees was) in
    let e = c.in_err-double_slash_by_text.field-0.0 in
    let q = plan_step.Each (plan.Step Child of (p ∷ [])) in
    found_stop (go_on (Forms.scan DescendantOrSelf Any (items_at f views) f) (λ ys. plan_step_mean q meant ys)) f' e c.from_residual-in_err-double_slash_by_text.result c.from_residual-in_err-double_slash_by_text.ensures.1
    (value_given (λ t. leads_to_text t test) slots p is meant f f1 f' c.value_test_at.ensures.keeps env of views items_in nodes (Err e) (λ a b d. c.in_err-double_slash_by_text.ensures.in_trees clean a b slots p meant is d))

pub returns-clause-goes : goal.returns-clause-goes
returns-clause-goes g c = goes_on_to (same_goes c.value_test_at.ensures.keeps c.value_test_at.ensures.was_clean) c.double_slash_by_text.ensures.goes

pub returns-in_err-double_slash_by_text-clause-goes : goal.returns-in_err-double_slash_by_text-clause-goes
returns-in_err-double_slash_by_text-clause-goes g c = goes_on_to (same_goes c.value_test_at.ensures.keeps c.value_test_at.ensures.was_clean) c.double_slash_by_text.ensures.goes

pub returns-in_default-clause-gives : goal.returns-in_default-clause-gives
returns-in_default-clause-gives g c = λ clean items_in meant env.
    let f' = g.W.TreeSource.forest c.below_by_value_key.new.world in
    let slots = values_of c.args.frame.slots.now in
    let views = map item_view c.args.items.now in
    let q = plan_step.Each (plan.Step Child c.args.step.test.now (c.args.step.predicate.now ∷ [])) in
    subst (λ (h : List Tree). AreIn h views → meant.env ≡ tuple_at h slots → GivesFound (go_on (Forms.scan DescendantOrSelf Any (items_at h views) h) (λ ys. plan_step_mean q meant ys)) f' c.below_by_value_key.result) c.value_test_at.ensures.keeps
    (λ a b. c.below_by_value_key.ensures.gives clean a meant b) items_in env

pub returns-in_default-clause-goes : goal.returns-in_default-clause-goes
returns-in_default-clause-goes g c = goes_on_to (same_goes c.value_test_at.ensures.keeps c.value_test_at.ensures.was_clean) c.below_by_value_key.ensures.goes
