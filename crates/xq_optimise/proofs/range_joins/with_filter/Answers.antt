use Rattle.std.proofs.Common.{List, Option, subst}
use Rattle.std.proofs.lemmas.Result.{IfOk-weaker}
use Rattle.std.specs.Prelude.{IfSome}
use Rattle.xq_meaning.specs.declared.joins.Join.{Join}
use Rattle.xq_meaning.specs.declared.plans.Plan.{Plan}
use Rattle.xq_meaning.specs.declared.plans.PlanClause.TheVariants as clause
use Rattle.xq_optimise.specs.private.Filters.{IsFilterGroup}
use Rattle.xq_optimise.proofs.GroupMatches.{filter_found}
use Rattle.xq_optimise.proofs.range_joins.with_filter.Goals as goal

pub returns-in-Some : goal.returns-in-Some
returns-in-Some c =
    let join = c.in-Some.join in
    let found = subst (λ (o : Option Join). IfSome o (λ join. IsFilterGroup c.args.outer c.args.known.now c.get.result.now c.as_slice-tests.result.now join)) c.in-Some.is c.in_ok-join.ensures in
    let group = filter_found c.args.outer c.args.known.now c.args.start c.into_inner.result c.args.predicates join c.into_inner.ensures
    (subst (λ (s : Plan). IsFilterGroup c.args.outer c.args.known.now s c.args.predicates join) c.get.ensures
    (subst (λ (l : List Plan). IsFilterGroup c.args.outer c.args.known.now c.get.result.now l join) c.as_slice-tests.ensures found)) in
    IfOk-weaker c.pushed.result _ _ (λ after h. (clause.Join c.into_inner.result join, h, group.2)) c.pushed.ensures
