use Rattle.std.proofs.Common.{◌≡◌, sym, subst, Ok}
use Rattle.xq_trees.specs.Items.{item_views}
use Rattle.xq_trees.specs.declared.Axis.TheVariants.{Child}
use Rattle.xq_meaning.specs.Readings.{items_at, AreIn}
use Rattle.xq_operators.specs.Views.{focus_at, last_on_axis}
use Rattle.xq_operators.proofs.NodeLemmas.{context_in, last_gives}
use Rattle.xq_operators.proofs.steps.last_child.Goals as goal

pub returns-clause-gives : goal.returns-clause-gives
returns-clause-gives g c = λ k inside.
    let old = g.W.TreeSource.forest c.args.world.now in
    let focus = focus_at old c.args.frame.focus in
    let views = item_views c.in_ok-items.items in
    let node = c.in_ok-node.node in
    let has = context_in old c.args.frame.focus node inside.focus_in (c.in_ok-node.ensures old) in
    let found = c.in_ok-items.ensures.items k has in
    subst (λ f. AreIn f views × (last_on_axis Child c.args.test.now focus old ≡ (Ok (items_at f views), f))) (sym c.in_ok-items.ensures.keeps)
    (last_gives old c.args.test.now focus node found.nodes views (c.in_ok-node.ensures old) found.on_axis found.there found.are)
