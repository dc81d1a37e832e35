use Rattle.std.proofs.Common.{◌≡◌, sym, subst, IfSome}
use Rattle.xq_trees.specs.Rows.{placed_rows}
use Rattle.xq_sources.specs.Names.{named as named_places}
use Rattle.xq_sources.specs.Sources.{tree_at as nth_tree}
use Rattle.xq_tables.specs.Documents.{IsClean}
use Rattle.xq_store.specs.Views.{Viewed, trees_under}
use Rattle.xq_store.proofs.lending.ViewRowLender.named.Goals as goal

pub returns : goal.returns
returns g c = λ clean.
    let b = g.O.Origin.beginning in
    let was = subst (λ (w : Viewed _). IsClean g.S.Store w.store) (sym c.self.view_is) clean.0 in
    subst (λ (w : Viewed _). IfSome c.named_in.result (λ places. places.now ≡ named_places (placed_rows (nth_tree (trees_under b w.addresses) c.args.tree)) c.args.name.now)) c.self.view_is
    (c.named_in.ensures _ (c.self.invariant.rows was clean.1))
