use Rattle.std.proofs.Common.{◌≡◌, [], ◌∷◌, sym, subst, Ok, refl, arith}
use Rattle.std.proofs.lemmas.Result.{IfOk-weaker}
use Rattle.xq_axes.specs.Nodes.{AreOnAxis}
use Rattle.xq_trees.specs.Items.{Place, item_views}
use Rattle.xq_meaning.specs.Items.{Node}
use Rattle.xq_meaning.specs.Readings.{node_at, items_at, AreIn}
use Rattle.xq_meaning.specs.Forms as Forms
use Rattle.xq_operators.proofs.NodeLemmas.{scan_gives}
use Rattle.xq_operators.proofs.steps.scan_from.Goals as goal

pub returns-clause-gives : goal.returns-clause-gives
returns-clause-gives g c = λ k has.
    let old = g.W.TreeSource.forest c.args.world.now in
    let axis = c.args.axis in
    let test = c.args.test.now in
    let node = c.args.node in
    IfOk-weaker c.items_on_axis.result (λ found. AreOnAxis old axis test node (item_views found))
    (λ found. AreIn (g.W.TreeSource.forest c.items_on_axis.new.source) (item_views found) × (Forms.scan axis test (Node (node_at old node) ∷ []) old ≡ (Ok (items_at (g.W.TreeSource.forest c.items_on_axis.new.source) (item_views found)), g.W.TreeSource.forest c.items_on_axis.new.source)))
    (λ found on. subst (λ f. AreIn f (item_views found) × (Forms.scan axis test (Node (node_at old node) ∷ []) old ≡ (Ok (items_at f (item_views found)), f))) (sym c.items_on_axis.ensures.keeps)
    (scan_gives old axis test (Place node ∷ []) on.nodes (item_views found) refl on.in_order on.there on.are))
    (c.items_on_axis.ensures.items k has)

pub returns-clause-reads : goal.returns-clause-reads
returns-clause-reads g c = λ k most few.
    let seen = c.items_on_axis.ensures.sees k in
    let here = few c.args.node.tree in
    omega (arith, seen, here)
