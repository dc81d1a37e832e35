use Rattle.std.proofs.Common.{◌≡◌, ◌∙◌, ap, sym, subst, map, List, Ok}
use Rattle.std.specs.Prelude.{IfSome}
use Rattle.std.proofs.lemmas.List.{length-map}
use Rattle.std.specs.List.{AllByRecursion}
use Rattle.xq_trees.specs.Items.{item_view}
use Rattle.xq_trees.specs.Tree.{Tree}
use Rattle.xq_tuples.specs.Views.{slot_items, values_of}
use Rattle.xq_meaning.specs.Readings.{AreIn}
use Rattle.xq_joins.specs.Keyed.{passes_key}
use Rattle.xq_joins.specs.declared.keyed.KeyedTest.{KeyedTest}
use Rattle.xq_joins.specs.Keys.{IsNode}
use Rattle.xq_joins.specs.private.Keyed.{decided, ComparesNext, HasTexts}
use Rattle.xq_joins.proofs.Deciding.{decides}
use Rattle.xq_joins.proofs.decisions.decided_by_key.Goals as goal

pub returns-clause-answer : goal.returns-clause-answer
returns-clause-answer g c = λ k inside items_in frame env.
    let f = g.L.TreeSource.forest c.args.source.now in
    let slots = values_of c.args.slots.now in
    let xs = map item_view c.args.items.now in
    let wanted = c.args.wanted in
    let found = c.in-Some.found in
    let next = subst (λ n. ComparesNext n found c.args.test.now) (sym (length-map c.args.slots.now slot_items)) c.in-Some.ensures in
    let keyed = c.in-Some-2.keyed in
    let was = c.some_decides.ensures.was_clean k in
    let has = subst (λ r. IfSome r (λ (t : KeyedTest). HasTexts f slots found t)) c.in-Some-2.is (c.in_ok-keyed.ensures.texts was inside) in
    let nodes = subst (λ r. IfSome r (λ (t : KeyedTest). AllByRecursion IsNode xs)) c.in-Some-2.is c.in_ok-keyed.ensures.nodes in
    let answer = subst (λ (old : List Tree). AreIn old xs → c.in_ok-answer.answer ≡ decided wanted (map (passes_key old keyed) xs)) c.with_texts.ensures.keeps (c.in_ok-answer.ensures.answer k) items_in in
    decides f slots found keyed c.args.test.now next has frame env wanted xs nodes items_in
    ∙ ap (λ b. (Ok b, f)) (sym answer)
