use Rattle.std.proofs.Common.{◌≡◌, [], ◌∷◌, sym, ◌∙◌, ap, subst, Ok, refl}
use Rattle.std.proofs.lemmas.Result.{IfOk-weaker}
use Rattle.xq_axes.specs.Many.{AreReached}
use Rattle.xq_axes.specs.Nodes.{HaveAll}
use Rattle.xq_trees.specs.declared.Axis.TheVariants.{Parent}
use Rattle.xq_trees.specs.Items.{Place, item_views}
use Rattle.xq_trees.specs.Rising.{AreRising}
use Rattle.xq_meaning.specs.declared.node_tests.Test.TheVariants.{Any}
use Rattle.xq_meaning.specs.Items.{Node}
use Rattle.xq_meaning.specs.Readings.{node_at, items_at, AreIn}
use Rattle.xq_operators.specs.Runs.{views_of}
use Rattle.xq_operators.specs.Views.{parents_below}
use Rattle.xq_operators.proofs.NodeLemmas.{parents_give}
use Rattle.xq_operators.proofs.Scanning.{spots, one_rises, views_are}
use Rattle.xq_operators.proofs.steps.parents_below_one.Goals as goal

pub returns-clause-gives : goal.returns-clause-gives
returns-clause-gives g c = λ k has.
    let old = g.W.TreeSource.forest c.args.world.now in
    let mid = g.W.TreeSource.forest c.double_slash_in_tree.new.source in
    let new = g.W.TreeSource.forest c.step_in_tree.new.source in
    let n = c.args.node in
    let test = c.args.test.now in
    let start = Node (node_at old n) ∷ [] in
    let below = c.in_ok-found.ensures.reached (c.step_in_tree.ensures.was_clean k) (has, tt) (one_rises n) in
    let ps = c.in_ok-found.found.items in
    let slice = c.as_slice.ensures in
    let parents = c.in_ok-parents.parents.items in
    let reached = subst (λ f. HaveAll f (spots n.tree c.as_slice.result.now) → AreRising (spots n.tree c.as_slice.result.now) → AreReached f Parent Any n.tree c.as_slice.result.now parents) c.in_ok-found.ensures.keeps (c.in_ok-parents.ensures.reached k) in
    let above = subst (λ qs. HaveAll old (spots n.tree qs) → AreRising (spots n.tree qs) → AreReached old Parent Any n.tree qs parents) slice reached below.there below.rising in
    let same = c.in_ok-parents.ensures.keeps ∙ c.in_ok-found.ensures.keeps in
    IfOk-weaker c.as_items.result _ (λ found. AreIn new (item_views found) × (parents_below test start old ≡ (Ok (items_at new (item_views found)), new)))
    (λ found are. subst (λ f. AreIn f (item_views found) × (parents_below test start old ≡ (Ok (items_at f (item_views found)), f))) (sym same)
    (parents_give old test (Place n ∷ []) (spots n.tree ps) (spots n.tree parents) (item_views found) refl below.in_order below.there above.in_order above.there (are ∙ ap (views_of n.tree) c.as_slice-2.ensures ∙ views_are n.tree parents)))
    c.as_items.ensures
