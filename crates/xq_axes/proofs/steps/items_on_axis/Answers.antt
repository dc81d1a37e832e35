use Rattle.std.proofs.Common.{◌≡◌, map, ◌∙◌}
use Rattle.std.proofs.lemmas.Result.{IfOk-weaker}
use Rattle.xq_trees.specs.Items.{Place as NodeAt, item_views}
use Rattle.xq_axes.specs.Nodes.{AreOnAxis}
use Rattle.xq_axes.specs.Many.{spot}
use Rattle.xq_axes.proofs.Many.{one_there, one_rises, from_one}
use Rattle.xq_axes.proofs.steps.items_on_axis.Goals as goal

pub returns-clause-items : goal.returns-clause-items
returns-clause-items g c = λ k there.
    let trees = g.L.TreeSource.forest c.args.source.now in
    let v = c.args.node in
    let ps = c.as_slice.result.now in
    let e = c.as_slice.ensures ∙ c.in_ok-places.ensures.found k (one_there trees v.tree v.pre there) (one_rises v.pre) in
    IfOk-weaker c.as_items.result (λ found. item_views found ≡ map (λ p. NodeAt (spot v.tree p)) ps) (λ found. AreOnAxis trees c.args.axis c.args.test.now v (item_views found))
    (λ found is. from_one trees c.args.axis c.args.test.now v ps (item_views found) there e is) c.as_items.ensures

pub returns-clause-rows : goal.returns-clause-rows
returns-clause-rows g c = λ k. c.in_ok-places.ensures.rows k (one_rises c.args.node.pre)

pub returns-in_err-places-clause-rows : goal.returns-in_err-places-clause-rows
returns-in_err-places-clause-rows g c = λ k. c.in_err-places.ensures.rows k (one_rises c.args.node.pre)

pub returns-clause-sees : goal.returns-clause-sees
returns-clause-sees g c = λ k. c.in_ok-places.ensures.sees k (one_rises c.args.node.pre)

pub returns-in_err-places-clause-sees : goal.returns-in_err-places-clause-sees
returns-in_err-places-clause-sees g c = λ k. c.in_err-places.ensures.sees k (one_rises c.args.node.pre)
