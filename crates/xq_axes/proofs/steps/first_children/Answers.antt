use Rattle.std.proofs.Common.{◌≡◌, map, ◌∙◌}
use Rattle.std.proofs.lemmas.Result.{IfOk-weaker}
use Rattle.xq_trees.specs.Items.{Place as NodeAt, item_views}
use Rattle.xq_trees.specs.declared.Axis.TheVariants as axes
use Rattle.xq_axes.specs.Nodes.{AreFirstOnAxis}
use Rattle.xq_axes.specs.Many.{spot}
use Rattle.xq_axes.proofs.First.{first_from_one}
use Rattle.xq_axes.proofs.steps.first_children.Goals as goal

pub returns-clause-items : goal.returns-clause-items
returns-clause-items g c = λ k there.
    let trees = g.L.TreeSource.forest c.args.source.now in
    let v = c.args.node in
    let ps = c.as_slice.result.now in
    let e = c.as_slice.ensures ∙ c.in_ok-places.ensures.found k in
    IfOk-weaker c.as_items.result (λ found. item_views found ≡ map (λ p. NodeAt (spot v.tree p)) ps) (λ found. AreFirstOnAxis trees axes.Child c.args.test.now v c.args.most (item_views found))
    (λ found is. first_from_one trees axes.Child c.args.test.now v c.args.most ps (item_views found) there e is) c.as_items.ensures
