use Rattle.std.proofs.Common.{◌≡◌, Some, map, ap, sym, subst, ◌∙◌}
use Rattle.std.specs.Prelude.{slice_get}
use Rattle.xq_trees.specs.Rows.{placed}
use Rattle.xq_sources.specs.Sources.{rows_enclosing, tree_at as nth_tree}
use Rattle.xq_store.specs.private.Shelves.{front_at, run_of}
use Rattle.xq_store.specs.Views.{Viewed, trees_under}
use Rattle.xq_store.proofs.ViewLaws.{began_map, its_tree, stands_now}
use Rattle.xq_store.proofs.views.ViewRowSource.enclosing.Goals as goal

pub returns-clause-found : goal.returns-clause-found
returns-clause-found g c clean =
    let b = g.O.Origin.beginning in
    let v : Viewed _ = record { store = c.self.inside.store; addresses = c.self.inside.shelf.addresses.value; meter = c.self.inside.meter; lent = run_of (front_at c.self.inside.shelf.fronts.items c.self.inside.run.tree) c.self.inside.run.low c.self.inside.run.high } in
    let early = c.read_above.ensures.was_clean clean.0 in
    let here : slice_get v.addresses c.args.tree ≡ Some c.in-Some.address.now = ap (λ l. slice_get l c.args.tree) (sym c.deref.ensures) ∙ c.in-Some.ensures in
    let at = c.args.tree in
    let a = c.in-Some.address.now in
    subst (λ (w : Viewed _). map placed c.in_ok-found.found.items ≡ rows_enclosing (nth_tree (trees_under b w.addresses) at) c.args.node) c.self.view_is
    (c.in_ok-found.ensures.found clean.0 (began_map b) (stands_now g.S.Store b v c.self.invariant.view early clean.1 at a here) _ (its_tree g.S.Store b v c.self.invariant.view early clean.1 at a here))
