use Rattle.std.proofs.Common.{◌≡◌, ◌∷◌, [], ap, sym, subst, map, List, Ok, Err, arith}
use Rattle.std.specs.Prelude.{IfSome}
use Rattle.xq_trees.specs.declared.Axis.TheVariants.{Child, DescendantOrSelf}
use Rattle.xq_meaning.specs.declared.node_tests.Test.TheVariants.{Any}
use Rattle.xq_trees.specs.Items.{item_view}
use Rattle.xq_trees.specs.Tree.{Tree}
use Rattle.xq_meaning.specs.declared.plans.Plan.{Plan}
use Rattle.xq_meaning.specs.declared.plans.Plan.TheVariants as plan
use Rattle.xq_meaning.specs.declared.plans.PlanStep.TheVariants as plan_step
use Rattle.xq_tuples.specs.Views.{values_of}
use Rattle.xq_meaning.specs.Doing.{Outcome, go_on}
use Rattle.xq_meaning.specs.Forms as Forms
use Rattle.xq_meaning.specs.Items.{Item}
use Rattle.xq_meaning.specs.PlanMeaning.{plan_mean, plan_step_mean}
use Rattle.xq_meaning.specs.Readings.{items_at, AreIn}
use Rattle.xq_operators.specs.Views.{after_double_slash, tuple_at, GivesSequence}
use Rattle.xq_operators.proofs.Growth.{goes_on_to}
use Rattle.xq_joins.specs.Equalities.{leads_to_text}
use Rattle.xq_joins.specs.declared.keyed.KeyedTest.{KeyedTest}
use Rattle.xq_joins.specs.Keyed.{leads_to_key, IsKeyedTest}
use Rattle.xq_eval.specs.private.Texts.{GivesFound}
use Rattle.xq_eval.proofs.Steps.{same_goes}
use Rattle.xq_eval.proofs.TextSteps.{text_step_is, found_stop, only_one}
use Rattle.xq_eval.proofs.texts.below_by_texts.Goals as goal

pub returns-in-Some-clause-gives : goal.returns-in-Some-clause-gives
returns-in-Some-clause-gives g c = λ clean within items_in meant env.
    let f = g.W.TreeSource.forest c.args.world.now in
    let f' = g.W.TreeSource.forest c.double_slash_by_text.new.world in
    let slots = values_of c.args.frame.slots.now in
    let predicates = c.args.chosen.predicates.now in
    let p = c.predicate-item.result in
    let test = c.in-Some.test in
    let of = c.args.chosen.test.now in
    let xs = items_at f (map item_view c.args.items.now) in
    let one : predicates ≡ p ∷ [] = only_one predicates p c.predicate-item.is (omega (arith, c.in-len1.len_at_least)) (omega (arith, c.in-len1.len_below)) in
    let is = c.in-Some.ensures f in
    let given = c.in_ok-double_slash_by_text.ensures.gives clean items_in slots p meant is env in
    subst (λ (o : Outcome (List Item)). GivesSequence o f' (Ok c.in_ok-double_slash_by_text.field-0)) (sym (text_step_is f slots (leads_to_text f test) p is meant env (plan_step.Each (plan.Step Child of predicates)) of xs (ap (λ ps. plan_step.Each (plan.Step Child of ps)) one))) given

pub returns-in_err-double_slash_by_text-clause-gives : goal.returns-in_err-double_slash_by_text-clause-gives
returns-in_err-double_slash_by_text-clause-gives g c = λ clean within items_in meant env.
    let f = g.W.TreeSource.forest c.args.world.now in
    let f' = g.W.TreeSource.forest c.double_slash_by_text.new.world in
    let slots = values_of c.args.frame.slots.now in
    let predicates = c.args.chosen.predicates.now in
    let p = c.predicate-item.result in
    let test = c.in-Some.test in
    let of = c.args.chosen.test.now in
    let xs = items_at f (map item_view c.args.items.now) in
    let one : predicates ≡ p ∷ [] = only_one predicates p c.predicate-item.is (omega (arith, c.in-len1.len_at_least)) (omega (arith, c.in-len1.len_below)) in
    let is = c.in-Some.ensures f in
    let e = c.in_err-double_slash_by_text.field-0.0 in
    let q = plan_step.Each (plan.Step Child of predicates) in
    found_stop (go_on (Forms.scan DescendantOrSelf Any xs f) (λ ys. plan_step_mean q meant ys)) f' e c.from_residual.result c.from_residual.ensures.1
    (subst (λ (o : Outcome (List Item)). GivesSequence o f' (Err e)) (sym (text_step_is f slots (leads_to_text f test) p is meant env q of xs (ap (λ ps. plan_step.Each (plan.Step Child of ps)) one)))
    (c.in_err-double_slash_by_text.ensures.gives clean items_in slots p meant is env))

pub returns-clause-gives : goal.returns-clause-gives
returns-clause-gives g c = λ clean within items_in meant env.
    let f = g.W.TreeSource.forest c.args.world.now in
    let f' = g.W.TreeSource.forest c.double_slash_by_key.new.world in
    let slots = values_of c.args.frame.slots.now in
    let predicates = c.args.chosen.predicates.now in
    let p = c.predicate-item.result in
    let test = c.in-Some-2.test in
    let of = c.args.chosen.test.now in
    let views = map item_view c.args.items.now in
    let kept = c.in_ok-kept.kept in
    let one : predicates ≡ p ∷ [] = only_one predicates p c.predicate-item.is (omega (arith, c.in-len1.len_at_least)) (omega (arith, c.in-len1.len_below)) in
    let same = c.keyed_test.ensures.keeps in
    let was = c.double_slash_by_key.ensures.goes.was_clean clean in
    let is : IsKeyedTest f slots test p = subst (λ r. IfSome r (λ (t : KeyedTest). IsKeyedTest f slots t p)) c.in-Some-2.is (c.in_ok-test.ensures.test was within) in
    let then_test = λ (ys : List Item). Forms.filtered meant ys (plan_mean p) in
    let given = subst (λ (h : List Tree). AreIn h views → IsKeyedTest h slots test p → meant.env ≡ tuple_at h slots → GivesSequence (go_on (after_double_slash of (items_at h views) h) then_test) f' (Ok kept)) same
    (λ a b d. c.in_ok-kept.ensures.gives clean a slots p meant b d) items_in is env in
    subst (λ (o : Outcome (List Item)). GivesSequence o f' (Ok kept)) (sym (text_step_is f slots (leads_to_key f test) p is meant env (plan_step.Each (plan.Step Child of predicates)) of (items_at f views) (ap (λ ps. plan_step.Each (plan.Step Child of ps)) one))) given

pub returns-in_err-kept-clause-gives : goal.returns-in_err-kept-clause-gives
returns-in_err-kept-clause-gives g c = λ clean within items_in meant env.
    let f = g.W.TreeSource.forest c.args.world.now in
    let f' = g.W.TreeSource.forest c.double_slash_by_key.new.world in
    let slots = values_of c.args.frame.slots.now in
    let predicates = c.args.chosen.predicates.now in
    let p = c.predicate-item.result in
    let test = c.in-Some-2.test in
    let of = c.args.chosen.test.now in
    let views = map item_view c.args.items.now in
    let one : predicates ≡ p ∷ [] = only_one predicates p c.predicate-item.is (omega (arith, c.in-len1.len_at_least)) (omega (arith, c.in-len1.len_below)) in
    let same = c.keyed_test.ensures.keeps in
    let was = c.double_slash_by_key.ensures.goes.was_clean clean in
    let is : IsKeyedTest f slots test p = subst (λ r. IfSome r (λ (t : KeyedTest). IsKeyedTest f slots t p)) c.in-Some-2.is (c.in_ok-test.ensures.test was within) in
    let then_test = λ (ys : List Item). Forms.filtered meant ys (plan_mean p) in
    let e = c.in_err-kept.field-0.0 in
    let q = plan_step.Each (plan.Step Child of predicates) in
    let given = subst (λ (h : List Tree). AreIn h views → IsKeyedTest h slots test p → meant.env ≡ tuple_at h slots → GivesSequence (go_on (after_double_slash of (items_at h views) h) then_test) f' (Err e)) same
    (λ a b d. c.in_err-kept.ensures.gives clean a slots p meant b d) items_in is env in
    found_stop (go_on (Forms.scan DescendantOrSelf Any (items_at f views) f) (λ ys. plan_step_mean q meant ys)) f' e c.from_residual-in_err-kept.result c.from_residual-in_err-kept.ensures.1
    (subst (λ (o : Outcome (List Item)). GivesSequence o f' (Err e)) (sym (text_step_is f slots (leads_to_key f test) p is meant env q of (items_at f views) (ap (λ ps. plan_step.Each (plan.Step Child of ps)) one))) given)

pub returns-clause-goes : goal.returns-clause-goes
returns-clause-goes g c = goes_on_to (same_goes c.keyed_test.ensures.keeps c.keyed_test.ensures.was_clean) c.double_slash_by_key.ensures.goes

pub returns-in_err-kept-clause-goes : goal.returns-in_err-kept-clause-goes
returns-in_err-kept-clause-goes g c = goes_on_to (same_goes c.keyed_test.ensures.keeps c.keyed_test.ensures.was_clean) c.double_slash_by_key.ensures.goes

pub returns-in_default-2-clause-gives : goal.returns-in_default-2-clause-gives
returns-in_default-2-clause-gives g c = λ clean within items_in meant env.
    let f' = g.W.TreeSource.forest c.below_by_value.new.world in
    let slots = values_of c.args.frame.slots.now in
    let predicates = c.args.chosen.predicates.now in
    let p = c.predicate-item.result in
    let of = c.args.chosen.test.now in
    let views = map item_view c.args.items.now in
    let one : predicates ≡ p ∷ [] = only_one predicates p c.predicate-item.is (omega (arith, c.in-len1.len_at_least)) (omega (arith, c.in-len1.len_below)) in
    let outcome = λ (h : List Tree) (ps : List Plan). go_on (Forms.scan DescendantOrSelf Any (items_at h views) h) (λ ys. plan_step_mean (plan_step.Each (plan.Step Child of ps)) meant ys) in
    let given = subst (λ (h : List Tree). AreIn h views → meant.env ≡ tuple_at h slots → GivesFound (outcome h (p ∷ [])) f' c.below_by_value.result) c.keyed_test.ensures.keeps
    (λ a b. c.below_by_value.ensures.gives clean a meant b) items_in env in
    subst (λ (ps : List Plan). GivesFound (outcome (g.W.TreeSource.forest c.args.world.now) ps) f' c.below_by_value.result) (sym one) given
