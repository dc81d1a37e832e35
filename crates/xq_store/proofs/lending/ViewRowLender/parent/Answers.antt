use Rattle.std.proofs.Common.{sym, subst, IfSome}
use Rattle.xq_trees.specs.Rows.{rows}
use Rattle.xq_sources.specs.Parents.{IsParentRow}
use Rattle.xq_sources.specs.Sources.{tree_at as nth_tree}
use Rattle.xq_tables.specs.Documents.{IsClean}
use Rattle.xq_store.specs.Views.{Viewed, trees_under}
use Rattle.xq_store.proofs.lending.ViewRowLender.parent.Goals as goal

pub returns : goal.returns
returns g c = λ clean.
    let b = g.O.Origin.beginning in
    let was = subst (λ (w : Viewed _). IsClean g.S.Store w.store) (sym c.self.view_is) clean.0 in
    subst (λ (w : Viewed _). IfSome c.parent_of.result (λ place. IsParentRow (rows (nth_tree (trees_under b w.addresses) c.args.tree)) place c.args.node)) c.self.view_is
    (c.parent_of.ensures _ (c.self.invariant.rows was clean.1))
