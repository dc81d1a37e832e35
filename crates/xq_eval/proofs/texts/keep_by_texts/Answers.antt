use Rattle.std.proofs.Common.{◌≡◌, ◌∙◌, refl, subst, map, List, Ok}
use Rattle.std.specs.Prelude.{filter, IfOk, IfSome}
use Rattle.std.specs.List.{AllByRecursion}
use Rattle.xq_trees.specs.Items.{item_view, item_views}
use Rattle.xq_trees.specs.Tree.{Tree}
use Rattle.xq_tuples.specs.Views.{values_of}
use Rattle.xq_meaning.specs.Forms as Forms
use Rattle.xq_meaning.specs.PlanMeaning.{plan_mean}
use Rattle.xq_meaning.specs.Readings.{items_at, AreIn}
use Rattle.xq_operators.specs.Views.{frame_at, FrameIn, GivesSequence}
use Rattle.xq_joins.specs.Equalities.{leads_to_text}
use Rattle.xq_joins.specs.declared.keyed.KeyedTest.{KeyedTest}
use Rattle.xq_joins.specs.Keys.{IsNode}
use Rattle.xq_joins.specs.Keyed.{leads_to_key, passes_key, IsKeyedTest}
use Rattle.xq_eval.proofs.TextSteps.{texts_kept}
use Rattle.xq_eval.proofs.texts.keep_by_texts.Goals as goal

pub returns-in-Some-clause-gives : goal.returns-in-Some-clause-gives
returns-in-Some-clause-gives g c = λ clean inside items_in.
    let f = g.W.TreeSource.forest c.args.world.now in
    let f' = g.W.TreeSource.forest c.keep_by_text.new.source in
    let held = c.args.frame in
    let test = c.in-Some.test in
    texts_kept f (values_of held.slots.now) (leads_to_text f test) c.args.predicate.now (c.in-Some.ensures.test f) (frame_at f held) refl f' (map item_view c.args.items.now) (item_views c.in_ok-keep_by_text.field-0)
    c.in-Some.ensures.nodes items_in (c.in_ok-keep_by_text.ensures.kept clean items_in) c.keep_by_text.ensures.keeps

pub returns-clause-gives : goal.returns-clause-gives
returns-clause-gives g c = λ clean inside items_in.
    let f = g.W.TreeSource.forest c.args.world.now in
    let f2 = g.W.TreeSource.forest c.keep_by_key.new.source in
    let held = c.args.frame in
    let slots = values_of held.slots.now in
    let p = c.args.predicate.now in
    let xs = map item_view c.args.items.now in
    let kept = item_views c.in_ok-keep_by_key.field-0 in
    let test = c.in-Some-2.test in
    let same = c.keyed_test.ensures.keeps in
    let is : IsKeyedTest f slots test p = subst (λ r. IfSome r (λ (t : KeyedTest). IsKeyedTest f slots t p)) c.in-Some-2.is (c.in_ok-test.ensures.test (c.keep_by_key.ensures.was_clean clean) inside.slots_in) in
    let nodes : AllByRecursion IsNode xs = subst (λ r. IfSome r (λ (t : KeyedTest). AllByRecursion IsNode xs)) c.in-Some-2.is c.in_ok-test.ensures.nodes in
    let are : kept ≡ filter (passes_key f test) xs = subst (λ (h : List Tree). AreIn h xs → kept ≡ filter (passes_key h test) xs) same (λ xs_in. c.in_ok-keep_by_key.ensures.kept clean xs_in) items_in in
    texts_kept f slots (leads_to_key f test) p is (frame_at f held) refl f2 xs kept nodes items_in are (c.keep_by_key.ensures.keeps ∙ same)

pub returns-in_default-2-clause-gives : goal.returns-in_default-2-clause-gives
returns-in_default-2-clause-gives g c = λ clean inside items_in.
    let f2 = g.W.TreeSource.forest c.keep_by_value.new.world in
    let held = c.args.frame in
    let p = c.args.predicate.now in
    let xs = map item_view c.args.items.now in
    subst (λ (h : List Tree). FrameIn h held → AreIn h xs → IfOk c.keep_by_value.result (λ found. IfSome found (λ kept. GivesSequence (Forms.filtered (frame_at h held) (items_at h xs) (plan_mean p) h) f2 (Ok kept)))) c.keyed_test.ensures.keeps
    (λ a b. c.keep_by_value.ensures.gives clean a b) inside items_in
