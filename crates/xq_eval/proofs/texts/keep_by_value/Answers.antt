use Rattle.std.proofs.Common.{◌≡◌, ◌∙◌, refl, subst, map, List}
use Rattle.std.specs.Prelude.{filter, IfSome}
use Rattle.std.specs.List.{AllByRecursion}
use Rattle.xq_trees.specs.Items.{item_view, item_views}
use Rattle.xq_trees.specs.Tree.{Tree}
use Rattle.xq_tuples.specs.Views.{values_of}
use Rattle.xq_meaning.specs.Readings.{AreIn}
use Rattle.xq_operators.specs.Views.{frame_at}
use Rattle.xq_joins.specs.Equalities.{leads_to_text, passes_text, IsNodeOf, IsTreeAt, IsValueTest}
use Rattle.xq_joins.specs.declared.equalities.TextTest.{TextTest}
use Rattle.xq_joins.specs.declared.keyed.KeyedTest.{KeyedTest}
use Rattle.xq_joins.specs.Keyed.{leads_to_key, passes_key, IsValueKeyTest}
use Rattle.xq_eval.proofs.TextSteps.{tests_kept}
use Rattle.xq_eval.proofs.texts.keep_by_value.Goals as goal

pub returns-in-Some-clause-gives : goal.returns-in-Some-clause-gives
returns-in-Some-clause-gives g c = λ clean inside items_in.
    let f = g.W.TreeSource.forest c.args.world.now in
    let f2 = g.W.TreeSource.forest c.keep_by_text.new.source in
    let held = c.args.frame in
    let slots = values_of held.slots.now in
    let p = c.args.predicate.now in
    let xs = map item_view c.args.items.now in
    let kept = item_views c.in_ok-keep_by_text.field-0 in
    let test = c.in-Some.test in
    let same = c.value_test_at.ensures.keeps in
    let is : IsValueTest slots test p = subst (λ r. IfSome r (λ (t : TextTest). IsValueTest slots t p)) c.in-Some.is c.in_ok-test.ensures.test in
    let nodes : AllByRecursion (IsNodeOf (IsTreeAt f)) xs = subst (λ r. IfSome r (λ (t : TextTest). AllByRecursion (IsNodeOf (IsTreeAt f)) xs)) c.in-Some.is (c.in_ok-test.ensures.trees (c.keep_by_text.ensures.was_clean clean)) in
    let are : kept ≡ filter (passes_text f test) xs = subst (λ (h : List Tree). AreIn h xs → kept ≡ filter (passes_text h test) xs) same (λ xs_in. c.in_ok-keep_by_text.ensures.kept clean xs_in) items_in in
    tests_kept f slots (IsTreeAt f) (leads_to_text f test) p (is f) (frame_at f held) refl f2 xs kept nodes items_in are (c.keep_by_text.ensures.keeps ∙ same)

pub returns-clause-gives : goal.returns-clause-gives
returns-clause-gives g c = λ clean inside items_in.
    let f = g.W.TreeSource.forest c.args.world.now in
    let f1 = g.W.TreeSource.forest c.value_test_at.new.world in
    let f2 = g.W.TreeSource.forest c.value_key_at.new.world in
    let f3 = g.W.TreeSource.forest c.keep_by_key.new.source in
    let held = c.args.frame in
    let slots = values_of held.slots.now in
    let p = c.args.predicate.now in
    let xs = map item_view c.args.items.now in
    let kept = item_views c.in_ok-keep_by_key.field-0 in
    let key = c.in-Some-2.key in
    let first : f1 ≡ f = c.value_test_at.ensures.keeps in
    let same : f2 ≡ f = c.value_key_at.ensures.keeps ∙ first in
    let is : IsValueKeyTest slots key p = subst (λ r. IfSome r (λ (t : KeyedTest). IsValueKeyTest slots t p)) c.in-Some-2.is c.in_ok-key.ensures.test in
    let there : AllByRecursion (IsNodeOf (IsTreeAt f1)) xs = subst (λ r. IfSome r (λ (t : KeyedTest). AllByRecursion (IsNodeOf (IsTreeAt f1)) xs)) c.in-Some-2.is (c.in_ok-key.ensures.trees (c.keep_by_key.ensures.was_clean clean)) in
    let nodes : AllByRecursion (IsNodeOf (IsTreeAt f)) xs = subst (λ (h : List Tree). AllByRecursion (IsNodeOf (IsTreeAt h)) xs) first there in
    let are : kept ≡ filter (passes_key f key) xs = subst (λ (h : List Tree). AreIn h xs → kept ≡ filter (passes_key h key) xs) same (λ xs_in. c.in_ok-keep_by_key.ensures.kept clean xs_in) items_in in
    tests_kept f slots (IsTreeAt f) (leads_to_key f key) p (is f) (frame_at f held) refl f3 xs kept nodes items_in are (c.keep_by_key.ensures.keeps ∙ same)
