use Rattle.std.proofs.Common.{◌≡◌, [], ◌∷◌, sym, ◌∙◌, ap, subst, Ok, refl}
use Rattle.std.proofs.lemmas.Result.{IfOk-weaker}
use Rattle.xq_trees.specs.Items.{Place, item_views}
use Rattle.xq_meaning.specs.Items.{Node}
use Rattle.xq_meaning.specs.Readings.{node_at, items_at, AreIn}
use Rattle.xq_operators.specs.Reads.{AreOf}
use Rattle.xq_operators.specs.Runs.{views_of}
use Rattle.xq_operators.specs.Views.{after_double_slash}
use Rattle.xq_operators.proofs.NodeLemmas.{double_slash_gives}
use Rattle.xq_operators.proofs.OneTree.{double_slash_grown, double_slash_found}
use Rattle.xq_operators.proofs.Scanning.{spots, one_rises, one_of_tree, views_are}
use Rattle.xq_operators.proofs.steps.double_slash_from.Goals as goal

pub returns-clause-gives : goal.returns-clause-gives
returns-clause-gives g c = λ k has.
    let old = g.W.TreeSource.forest c.args.world.now in
    let new = g.W.TreeSource.forest c.double_slash_in_tree.new.source in
    let n = c.args.node in
    let test = c.args.test.now in
    let start = Node (node_at old n) ∷ [] in
    let ps = c.in_ok-places.places.items in
    let below = c.in_ok-places.ensures.reached k (has, tt) (one_rises n) in
    IfOk-weaker c.as_items.result _ (λ found. AreIn new (item_views found) × (after_double_slash test start old ≡ (Ok (items_at new (item_views found)), new)))
    (λ found are. subst (λ f. AreIn f (item_views found) × (after_double_slash test start old ≡ (Ok (items_at f (item_views found)), f))) (sym c.in_ok-places.ensures.keeps)
    (double_slash_gives old test (Place n ∷ []) (spots n.tree ps) (item_views found) refl below.in_order below.there (are ∙ ap (views_of n.tree) c.as_slice.ensures ∙ views_are n.tree ps)))
    c.as_items.ensures

pub returns-clause-reads : goal.returns-clause-reads
returns-clause-reads g c = λ k has.
    let old = g.W.TreeSource.forest c.args.world.now in
    let n = c.args.node in
    double_slash_grown old n.tree (Place n ∷ []) (n ∷ []) refl (one_of_tree old n has) (g.W.TreeSource.meter c.args.world.now) (g.W.TreeSource.meter c.double_slash_in_tree.new.source) (c.in_ok-places.ensures.rows k (one_rises n)) c.in_ok-places.ensures.singles (c.in_ok-places.ensures.sees k (one_rises n))

pub returns-in_err-places-clause-reads : goal.returns-in_err-places-clause-reads
returns-in_err-places-clause-reads g c = λ k has.
    let old = g.W.TreeSource.forest c.args.world.now in
    let n = c.args.node in
    double_slash_grown old n.tree (Place n ∷ []) (n ∷ []) refl (one_of_tree old n has) (g.W.TreeSource.meter c.args.world.now) (g.W.TreeSource.meter c.double_slash_in_tree.new.source) (c.in_err-places.ensures.rows k (one_rises n)) c.in_err-places.ensures.singles (c.in_err-places.ensures.sees k (one_rises n))

pub returns-clause-of_tree : goal.returns-clause-of_tree
returns-clause-of_tree g c = λ k has.
    let old = g.W.TreeSource.forest c.args.world.now in
    let new = g.W.TreeSource.forest c.double_slash_in_tree.new.source in
    let n = c.args.node in
    let test = c.args.test.now in
    let ps = c.in_ok-places.places.items in
    let below = c.in_ok-places.ensures.reached k (has, tt) (one_rises n) in
    IfOk-weaker c.as_items.result _ (λ found. AreOf new n.tree (item_views found))
    (λ found are. subst (λ f. AreOf f n.tree (item_views found)) (sym c.in_ok-places.ensures.keeps)
    (double_slash_found old n.tree (Place n ∷ []) (n ∷ []) refl (one_of_tree old n has) test (spots n.tree ps) (item_views found) below.in_order below.there below.rising (are ∙ ap (views_of n.tree) c.as_slice.ensures ∙ views_are n.tree ps)))
    c.as_items.ensures
