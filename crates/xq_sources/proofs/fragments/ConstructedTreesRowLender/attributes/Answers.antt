use Rattle.std.proofs.Common.{IfSome, List, ap, ◌∙◌, subst}
use Rattle.xq_trees.specs.Rows.{Row}
use Rattle.xq_sources.specs.AttributeRows.{AreAttributeRows}
use Rattle.xq_sources.specs.Lent.{unplaced}
use Rattle.xq_sources.specs.Sources.{tree_at}
use Rattle.xq_sources.proofs.ReadRows.{read_unplaced}
use Rattle.xq_sources.proofs.fragments.ConstructedTreesRowLender.attributes.Goals as goal

pub returns-clause-told : goal.returns-clause-told
returns-clause-told c =
    let read = ap unplaced c.in-Ok.ensures.rows ∙ read_unplaced (tree_at c.args.self.now.trees c.args.tree) in
    λ _. subst (λ (rs : List Row). IfSome c.count_attributes.result (λ number. AreAttributeRows rs c.args.node number)) read c.count_attributes.ensures
