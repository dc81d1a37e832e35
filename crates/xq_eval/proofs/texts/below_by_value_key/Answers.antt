use Rattle.std.proofs.Common.{◌∷◌, [], subst, map, Ok, Err}
use Rattle.std.specs.Prelude.{IfSome}
use Rattle.std.specs.List.{AllByRecursion}
use Rattle.xq_trees.specs.declared.Axis.TheVariants.{Child, DescendantOrSelf}
use Rattle.xq_meaning.specs.declared.node_tests.Test.TheVariants.{Any}
use Rattle.xq_trees.specs.Items.{item_view}
use Rattle.xq_meaning.specs.declared.plans.Plan.TheVariants as plan
use Rattle.xq_meaning.specs.declared.plans.PlanStep.TheVariants as plan_step
use Rattle.xq_tuples.specs.Views.{values_of}
use Rattle.xq_meaning.specs.Doing.{go_on}
use Rattle.xq_meaning.specs.Forms as Forms
use Rattle.xq_meaning.specs.PlanMeaning.{plan_step_mean}
use Rattle.xq_meaning.specs.Readings.{items_at}
use Rattle.xq_operators.proofs.Growth.{goes_on_to}
use Rattle.xq_joins.specs.Equalities.{IsNodeOf, IsTreeAt}
use Rattle.xq_joins.specs.declared.keyed.KeyedTest.{KeyedTest}
use Rattle.xq_joins.specs.Keyed.{leads_to_key, IsValueKeyTest}
use Rattle.xq_eval.proofs.Steps.{same_goes}
use Rattle.xq_eval.proofs.TextSteps.{value_given, found_stop}
use Rattle.xq_eval.proofs.texts.below_by_value_key.Goals as goal

pub returns-clause-gives : goal.returns-clause-gives
returns-clause-gives g c = λ clean items_in meant env.
    let f = g.W.TreeSource.forest c.args.world.now in
    let f1 = g.W.TreeSource.forest c.value_key_at.new.world in
    let f' = g.W.TreeSource.forest c.double_slash_by_key.new.world in
    let slots = values_of c.args.frame.slots.now in
    let p = c.args.step.predicate.now in
    let test = c.in-Some.key in
    let of = c.args.step.test.now in
    let views = map item_view c.args.items.now in
    let was = c.double_slash_by_key.ensures.goes.was_clean clean in
    let is : IsValueKeyTest slots test p = subst (λ r. IfSome r (λ (t : KeyedTest). IsValueKeyTest slots t p)) c.in-Some.is c.in_ok-key.ensures.test in
    let nodes : AllByRecursion (IsNodeOf (IsTreeAt f)) views = subst (λ r. IfSome r (λ (t : KeyedTest). AllByRecursion (IsNodeOf (IsTreeAt f)) views)) c.in-Some.is (c.in_ok-key.ensures.trees was) in
    value_given (λ t. leads_to_key t test) slots p is meant f f1 f' c.value_key_at.ensures.keeps env of views items_in nodes (Ok c.in_ok-kept.kept)
    (λ a b d. c.in_ok-kept.ensures.in_trees clean a b slots p meant is d)

pub returns-in_err-kept-clause-gives : goal.returns-in_err-kept-clause-gives
returns-in_err-kept-clause-gives g c = λ clean items_in meant env.
    let f = g.W.TreeSource.forest c.args.world.now in
    let f1 = g.W.TreeSource.forest c.value_key_at.new.world in
    let f' = g.W.TreeSource.forest c.double_slash_by_key.new.world in
    let slots = values_of c.args.frame.slots.now in
    let p = c.args.step.predicate.now in
    let test = c.in-Some.key in
    let of = c.args.step.test.now in
    let views = map item_view c.args.items.now in
    let was = c.double_slash_by_key.ensures.goes.was_clean clean in
    let is : IsValueKeyTest slots test p = subst (λ r. IfSome r (λ (t : KeyedTest). IsValueKeyTest slots t p)) c.in-Some.is c.in_ok-key.ensures.test in
    let nodes : AllByRecursion (IsNodeOf (IsTreeAt f)) views = subst (λ r. IfSome r (λ (t : KeyedTest). AllByRecursion (IsNodeOf (IsTreeAt f)) views)) c.in-Some.is (c.in_ok-key.ensures.trees was) in
    let e = c.in_err-kept.field-0.0 in
    let q = plan_step.Each (plan.Step Child of (p ∷ [])) in
    found_stop (go_on (Forms.scan DescendantOrSelf Any (items_at f views) f) (λ ys. plan_step_mean q meant ys)) f' e c.from_residual-in_err-kept.result c.from_residual-in_err-kept.ensures.1
    (value_given (λ t. leads_to_key t test) slots p is meant f f1 f' c.value_key_at.ensures.keeps env of views items_in nodes (Err e) (λ a b d. c.in_err-kept.ensures.in_trees clean a b slots p meant is d))

pub returns-clause-goes : goal.returns-clause-goes
returns-clause-goes g c = goes_on_to (same_goes c.value_key_at.ensures.keeps c.value_key_at.ensures.was_clean) c.double_slash_by_key.ensures.goes

pub returns-in_err-kept-clause-goes : goal.returns-in_err-kept-clause-goes
returns-in_err-kept-clause-goes g c = goes_on_to (same_goes c.value_key_at.ensures.keeps c.value_key_at.ensures.was_clean) c.double_slash_by_key.ensures.goes
