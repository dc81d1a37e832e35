use Rattle.std.proofs.Common.{◌≡◌, ◌∙◌, ap, sym, subst, Ok, arith}
use Rattle.xq_trees.specs.Items.{item_views}
use Rattle.xq_meaning.specs.Readings.{items_at, AreIn}
use Rattle.xq_meaning.specs.Steps.{in_axis_order}
use Rattle.xq_operators.specs.Views.{focus_at, on_axis}
use Rattle.xq_operators.proofs.NodeLemmas.{context_in, axis_gives}
use Rattle.xq_operators.proofs.steps.axis_items.Goals as goal

pub returns-clause-gives : goal.returns-clause-gives
returns-clause-gives g c = λ k inside.
    let old = g.W.TreeSource.forest c.args.world.now in
    let focus = focus_at old c.args.frame.focus in
    let views = item_views c.in_axis_order.result in
    let node = c.in_ok-node.node in
    let has = context_in old c.args.frame.focus node inside.focus_in (c.in_ok-node.ensures old) in
    let found = c.in_ok-items.ensures.items k has in
    let is = c.in_axis_order.ensures ∙ ap (in_axis_order c.args.axis) found.are in
    subst (λ f. AreIn f views × (on_axis c.args.axis c.args.test.now focus old ≡ (Ok (items_at f views), f))) (sym c.items_on_axis.ensures.keeps)
    (axis_gives old c.args.axis c.args.test.now focus node found.nodes views (c.in_ok-node.ensures old) found.on_axis found.there is)

pub returns-clause-reads : goal.returns-clause-reads
returns-clause-reads g c = λ k most few.
    let seen = c.in_ok-items.ensures.sees k in
    let here = few c.in_ok-node.node.tree in
    omega (arith, seen, here)

pub returns-in_err-items-clause-reads : goal.returns-in_err-items-clause-reads
returns-in_err-items-clause-reads g c = λ k most few.
    let seen = c.in_err-items.ensures.sees k in
    let here = few c.in_ok-node.node.tree in
    omega (arith, seen, here)
