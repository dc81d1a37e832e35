use Rattle.std.proofs.Common.{◌≡◌, ◌≤◌, ◌+◌, ◌∙◌, length, sym, ap, subst, Ok}
use Rattle.std.proofs.lemmas.Result.{IfOk-weaker}
use Rattle.xq_axes.specs.Many.{AreReached}
use Rattle.xq_axes.specs.Nodes.{HaveAll}
use Rattle.xq_axes.specs.Scans.{region, rows_from}
use Rattle.xq_sources.specs.Meters.{SeesAtMost}
use Rattle.xq_trees.specs.Items.{item_views}
use Rattle.xq_trees.specs.Rising.{AreRising}
use Rattle.xq_sources.specs.Sources.{tree_at}
use Rattle.xq_meaning.specs.Forms as Forms
use Rattle.xq_meaning.specs.Readings.{items_at, AreIn}
use Rattle.xq_operators.specs.Reads.{AreOf}
use Rattle.xq_operators.specs.Runs.{views_of}
use Rattle.xq_operators.proofs.Scanning.{spots, contexts_in, in_tree_gives, in_tree_inside, in_tree_reads, in_tree_found}
use Rattle.xq_operators.proofs.steps.scan_in_tree.Goals as goal

pub returns-clause-gives : goal.returns-clause-gives
returns-clause-gives g c = λ k views is inside.
    let old = g.W.TreeSource.forest c.args.world.now in
    let new = g.W.TreeSource.forest c.step_in_tree.new.source in
    let axis = c.args.axis in
    let test = c.args.test.now in
    let t = c.args.contexts.now.tree in
    let places = c.args.contexts.now.places.items in
    let found = c.in_ok-places.places.items in
    let start = items_at old views in
    let reached = subst (λ ps. HaveAll old (spots t ps) → AreRising (spots t ps) → AreReached old axis test t ps found) c.deref.ensures.value (c.in_ok-places.ensures.reached k) (contexts_in old t places views is inside) is.rising in
    IfOk-weaker c.as_items.result _ (λ items. AreIn new (item_views items) × (Forms.scan axis test start old ≡ (Ok (items_at new (item_views items)), new)))
    (λ items are. subst (λ f. AreIn f (item_views items) × (Forms.scan axis test start old ≡ (Ok (items_at f (item_views items)), f))) (sym c.in_ok-places.ensures.keeps)
    (in_tree_gives old t places views is axis test found (item_views items) reached (are ∙ ap (views_of t) c.as_slice.ensures)))
    c.as_items.ensures

pub returns-clause-reads : goal.returns-clause-reads
returns-clause-reads g c = λ k views is tree h.
    let old = g.W.TreeSource.forest c.args.world.now in
    let before = g.W.TreeSource.meter c.args.world.now in
    let after = g.W.TreeSource.meter c.step_in_tree.new.source in
    let axis = c.args.axis in
    let t = c.args.contexts.now.tree in
    let places = c.args.contexts.now.places.items in
    let v = c.deref.ensures.value in
    in_tree_reads old t places views is tree h axis before after
    (subst (λ ps. after.rows ≤ before.rows + length (region axis (tree_at old t) ps)) v (c.in_ok-places.ensures.rows k (subst (λ ps. AreRising (spots t ps)) (sym v) is.rising)))
    (subst (λ ps. after.singles ≤ before.singles + length ps) v c.in_ok-places.ensures.singles)
    (subst (λ ps. SeesAtMost before after (rows_from (tree_at old t) ps)) v (c.in_ok-places.ensures.sees k (subst (λ ps. AreRising (spots t ps)) (sym v) is.rising)))

pub returns-in_err-places-clause-reads : goal.returns-in_err-places-clause-reads
returns-in_err-places-clause-reads g c = λ k views is tree h.
    let old = g.W.TreeSource.forest c.args.world.now in
    let before = g.W.TreeSource.meter c.args.world.now in
    let after = g.W.TreeSource.meter c.step_in_tree.new.source in
    let axis = c.args.axis in
    let t = c.args.contexts.now.tree in
    let places = c.args.contexts.now.places.items in
    let v = c.deref.ensures.value in
    in_tree_reads old t places views is tree h axis before after
    (subst (λ ps. after.rows ≤ before.rows + length (region axis (tree_at old t) ps)) v (c.in_err-places.ensures.rows k (subst (λ ps. AreRising (spots t ps)) (sym v) is.rising)))
    (subst (λ ps. after.singles ≤ before.singles + length ps) v c.in_err-places.ensures.singles)
    (subst (λ ps. SeesAtMost before after (rows_from (tree_at old t) ps)) v (c.in_err-places.ensures.sees k (subst (λ ps. AreRising (spots t ps)) (sym v) is.rising)))

pub returns-clause-of_tree : goal.returns-clause-of_tree
returns-clause-of_tree g c = λ k views is tree h.
    let old = g.W.TreeSource.forest c.args.world.now in
    let new = g.W.TreeSource.forest c.step_in_tree.new.source in
    let axis = c.args.axis in
    let test = c.args.test.now in
    let t = c.args.contexts.now.tree in
    let places = c.args.contexts.now.places.items in
    let found = c.in_ok-places.places.items in
    let inside = in_tree_inside old t places views is tree h in
    let reached = subst (λ ps. HaveAll old (spots t ps) → AreRising (spots t ps) → AreReached old axis test t ps found) c.deref.ensures.value (c.in_ok-places.ensures.reached k) (contexts_in old t places views is inside) is.rising in
    IfOk-weaker c.as_items.result _ (λ items. AreOf new tree (item_views items))
    (λ items are. subst (λ f. AreOf f tree (item_views items)) (sym c.in_ok-places.ensures.keeps)
    (in_tree_found old t places views is tree h axis test found (item_views items) reached (are ∙ ap (views_of t) c.as_slice.ensures)))
    c.as_items.ensures
