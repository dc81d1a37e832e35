use Rattle.std.proofs.Common.{◌≡◌, Some, map, ap, sym, subst, ◌∙◌}
use Rattle.std.specs.Prelude.{slice_get}
use Rattle.xq_trees.specs.Rows.{placed, row_at, rows}
use Rattle.xq_sources.specs.Sources.{HasNode, tree_at as nth_tree}
use Rattle.xq_trees.specs.Tree.{IsTree}
use Rattle.xq_tables.specs.Documents.{tree_at}
use Rattle.xq_store.specs.private.Shelves.{front_at, run_of}
use Rattle.xq_store.specs.Views.{Viewed, trees_under}
use Rattle.xq_store.proofs.ViewLaws.{began_map, is_its_tree, its_tree, nth_in, popped, stands_now}
use Rattle.xq_store.proofs.views.ViewRowSource.row.Goals as goal
use Rattle.xq_tables.specs.Labels.{shown_rows}

pub returns-clause-exists : goal.returns-clause-exists
returns-clause-exists g c clean =
    let b = g.O.Origin.beginning in
    let v : Viewed _ = record { store = c.self.inside.store; addresses = c.self.inside.shelf.addresses.value; meter = c.self.inside.meter; lent = run_of (front_at c.self.inside.shelf.fronts.items c.self.inside.run.tree) c.self.inside.run.low c.self.inside.run.high } in
    let early = c.read_between.ensures.was_clean clean.0 in
    let here : slice_get v.addresses c.args.tree ≡ Some c.in-Some.address.now = ap (λ l. slice_get l c.args.tree) (sym c.deref.ensures) ∙ c.in-Some.ensures in
    let at = c.args.tree in
    let a = c.in-Some.address.now in
    let all = c.in_ok-found.ensures.found clean.0 (began_map b) (stands_now g.S.Store b v c.self.invariant.view early clean.1 at a here) _ (its_tree g.S.Store b v c.self.invariant.view early clean.1 at a here) in
    let one = popped (nth_tree (trees_under b v.addresses) at) c.args.node c.pop.new.self.items c.in-Some-pop.row (ap (map placed) (sym c.in-Some-pop.ensures.items) ∙ all) in
    let is : HasNode (trees_under b v.addresses) at c.args.node = record { tree_in = nth_in (tree_at (shown_rows b.database)) v.addresses at a here; node_in = one.0 } in
    subst (λ (w : Viewed _). HasNode (trees_under b w.addresses) at c.args.node) c.self.view_is is

pub returns-clause-found : goal.returns-clause-found
returns-clause-found g c clean =
    let b = g.O.Origin.beginning in
    let v : Viewed _ = record { store = c.self.inside.store; addresses = c.self.inside.shelf.addresses.value; meter = c.self.inside.meter; lent = run_of (front_at c.self.inside.shelf.fronts.items c.self.inside.run.tree) c.self.inside.run.low c.self.inside.run.high } in
    let early = c.read_between.ensures.was_clean clean.0 in
    let here : slice_get v.addresses c.args.tree ≡ Some c.in-Some.address.now = ap (λ l. slice_get l c.args.tree) (sym c.deref.ensures) ∙ c.in-Some.ensures in
    let at = c.args.tree in
    let a = c.in-Some.address.now in
    let all = c.in_ok-found.ensures.found clean.0 (began_map b) (stands_now g.S.Store b v c.self.invariant.view early clean.1 at a here) _ (its_tree g.S.Store b v c.self.invariant.view early clean.1 at a here) in
    let one = popped (nth_tree (trees_under b v.addresses) at) c.args.node c.pop.new.self.items c.in-Some-pop.row (ap (map placed) (sym c.in-Some-pop.ensures.items) ∙ all) in
    subst (λ (w : Viewed _). placed c.in-Some-pop.row ≡ (c.args.node, row_at (rows (nth_tree (trees_under b w.addresses) at)) c.args.node)) c.self.view_is one.1

pub returns-clause-is_tree : goal.returns-clause-is_tree
returns-clause-is_tree g c clean =
    let b = g.O.Origin.beginning in
    let v : Viewed _ = record { store = c.self.inside.store; addresses = c.self.inside.shelf.addresses.value; meter = c.self.inside.meter; lent = run_of (front_at c.self.inside.shelf.fronts.items c.self.inside.run.tree) c.self.inside.run.low c.self.inside.run.high } in
    let early = c.read_between.ensures.was_clean clean.0 in
    let here : slice_get v.addresses c.args.tree ≡ Some c.in-Some.address.now = ap (λ l. slice_get l c.args.tree) (sym c.deref.ensures) ∙ c.in-Some.ensures in
    let at = c.args.tree in
    let a = c.in-Some.address.now in
    subst (λ (w : Viewed _). IsTree (nth_tree (trees_under b w.addresses) at)) c.self.view_is (is_its_tree g.S.Store b v c.self.invariant.view early clean.1 at a here)
