use Rattle.std.proofs.Common.{◌++◌, ◌∷◌, [], false, subst}
use Rattle.std.proofs.lemmas.Result.{IfOk-weaker}
use Rattle.xq_expressions.specs.declared.operators.AllowingEmpty.TheVariants as allowing
use Rattle.xq_meaning.specs.declared.plans.Plan.{Plan}
use Rattle.xq_meaning.specs.declared.plans.PlanClause.TheVariants as clause
use Rattle.xq_optimise.specs.private.Ranges.{Narrows}
use Rattle.xq_optimise.proofs.narrow.with_for.Goals as goal

pub returns : goal.returns
returns c =
    let known = c.args.known.now in
    let told = c.finds_nodes.ensures c.if-not-finds_nodes.false in
    IfOk-weaker c.with_range.result _ _
    (λ after h. (subst (λ (r : Plan). Narrows known r (c.args.left.items ++ clause.For allowing.No false r ∷ []) after.items) c.in_ok-range.ensures h) told.0 told.1) c.with_range.ensures
