use Rattle.std.proofs.Common.{◌≡◌, [], ◌∷◌, subst, map}
use Rattle.std.specs.Prelude.{IfSome}
use Rattle.std.specs.List.{AllByRecursion}
use Rattle.xq_trees.specs.declared.Axis.TheVariants.{Child}
use Rattle.xq_trees.specs.Items.{item_view}
use Rattle.xq_tuples.specs.Views.{values_of}
use Rattle.xq_meaning.specs.declared.plans.Plan.TheVariants as plan
use Rattle.xq_joins.specs.Equalities.{IsNodeOf, IsTreeAt, IsValueTest}
use Rattle.xq_joins.specs.declared.equalities.TextTest.{TextTest}
use Rattle.xq_eval.specs.declared.texts.ChosenChild.{ChosenChild}
use Rattle.xq_eval.proofs.texts.value_step.Goals as goal

pub returns-clause-step : goal.returns-clause-step
returns-clause-step g c =
    let child = c.in-Some.child in
    let slots = values_of c.args.slots.now in
    record {
      predicate = child.predicate.now;
      part_is = subst (λ r. IfSome r (λ (it : ChosenChild). c.args.part.now ≡ plan.Step Child it.test.now (it.predicate.now ∷ []))) c.in-Some.is c.chosen_child.ensures;
      is_test = subst (λ r. IfSome r (λ (t : TextTest). IsValueTest slots t child.predicate.now)) c.in-Some-2.is c.in_ok-predicate.ensures.test;
    }

pub returns-clause-trees : goal.returns-clause-trees
returns-clause-trees g c = λ clean.
    let f = g.W.TreeSource.forest c.args.world.now in
    subst (λ r. IfSome r (λ (t : TextTest). AllByRecursion (IsNodeOf (IsTreeAt f)) (map item_view c.args.items.now))) c.in-Some-2.is (c.in_ok-predicate.ensures.trees clean)
