use Rattle.std.proofs.Common.{IfSome, List, ap, ◌∙◌, subst}
use Rattle.xq_trees.specs.Rows.{Row}
use Rattle.xq_sources.specs.Lent.{unplaced}
use Rattle.xq_sources.specs.Parents.{IsParentRow}
use Rattle.xq_sources.specs.Sources.{tree_at}
use Rattle.xq_sources.proofs.ReadRows.{read_unplaced}
use Rattle.xq_sources.proofs.fragments.ConstructedTreesRowLender.parent.Goals as goal

pub returns-in-Some : goal.returns-in-Some
returns-in-Some c =
    let read = ap unplaced c.in-Ok.ensures.rows ∙ read_unplaced (tree_at c.args.self.now.trees c.args.tree) in
    λ _. subst (λ (rs : List Row). IfSome c.parent.result (λ place. IsParentRow rs place c.args.node)) read c.parent.ensures

pub returns-in-None : goal.returns-in-None
returns-in-None c =
    let read = ap unplaced c.in-Ok.ensures.rows ∙ read_unplaced (tree_at c.args.self.now.trees c.args.tree) in
    λ _. subst (λ (rs : List Row). IfSome c.parent-in-None-2.result (λ place. IsParentRow rs place c.args.node)) read c.parent-in-None-2.ensures
