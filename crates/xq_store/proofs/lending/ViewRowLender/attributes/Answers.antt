use Rattle.std.proofs.Common.{sym, subst, IfSome, ap, ◌∙◌}
use Rattle.xq_trees.specs.Rows.{rows}
use Rattle.xq_trees.specs.Tree.{IsTree}
use Rattle.xq_sources.specs.Lent.{unplaced}
use Rattle.xq_sources.specs.AttributeRows.{AreAttributeRows}
use Rattle.xq_sources.specs.Sources.{tree_at as nth_tree}
use Rattle.xq_tables.specs.Documents.{IsClean}
use Rattle.xq_store.specs.Views.{Viewed, trees_under}
use Rattle.xq_store.specs.private.Shelves.{front_at}
use Rattle.xq_store.proofs.CountedAttributes.{counted_of, tree_of}
use Rattle.xq_store.proofs.lending.ViewRowLender.attributes.Goals as goal

pub returns-clause-told : goal.returns-clause-told
returns-clause-told g c = λ clean.
    let b = g.O.Origin.beginning in
    let answer = c.count_attributes.result in
    let was = subst (λ (w : Viewed _). IsClean g.S.Store w.store) (sym c.self.view_is) clean.0 in
    let kept = c.cached_rows.ensures ∙ ap (λ fronts. front_at fronts c.args.tree) c.deref.ensures.value in
    let counted = subst (λ xs. IfSome answer (λ number. AreAttributeRows (unplaced xs) c.args.node number)) kept c.count_attributes.ensures in
    subst (λ (w : Viewed _). IfSome answer (λ number. AreAttributeRows (rows (nth_tree (trees_under b w.addresses) c.args.tree)) c.args.node number)) c.self.view_is
    (counted_of g.S.Store b _ _ _ c.self.invariant was clean.1 c.args.tree c.args.node answer counted)

pub returns-clause-is_tree : goal.returns-clause-is_tree
returns-clause-is_tree g c = λ clean.
    let b = g.O.Origin.beginning in
    let answer = c.count_attributes.result in
    let was = subst (λ (w : Viewed _). IsClean g.S.Store w.store) (sym c.self.view_is) clean.0 in
    let kept = c.cached_rows.ensures ∙ ap (λ fronts. front_at fronts c.args.tree) c.deref.ensures.value in
    let counted = subst (λ xs. IfSome answer (λ number. AreAttributeRows (unplaced xs) c.args.node number)) kept c.count_attributes.ensures in
    subst (λ (w : Viewed _). IfSome answer (λ _. IsTree (nth_tree (trees_under b w.addresses) c.args.tree))) c.self.view_is
    (tree_of g.S.Store b _ _ _ c.self.invariant was clean.1 c.args.tree c.args.node answer counted)
