use Rattle.std.proofs.Common.{List, subst, Option}
use Rattle.std.specs.Prelude.{IfSome}
use Rattle.xq_meaning.specs.declared.joins.Join.{Join}
use Rattle.xq_meaning.specs.declared.plans.Plan.{Plan}
use Rattle.xq_optimise.specs.private.Filters.{IsFilterGroup}
use Rattle.xq_optimise.proofs.GroupMatches.{filter_found}
use Rattle.xq_optimise.proofs.group_joins.filter_value.Goals as goal

pub returns-in-Some : goal.returns-in-Some
returns-in-Some c =
    let found = subst (λ (o : Option Join). IfSome o (λ join. IsFilterGroup c.args.outer c.args.known.now c.get.result.now c.as_slice-tests.result.now join)) c.in-Some.is c.in_ok-join.ensures in
    filter_found c.args.outer c.args.known.now c.args.start c.into_inner.result c.args.predicates c.in-Some.join c.into_inner.ensures
    (subst (λ (s : Plan). IsFilterGroup c.args.outer c.args.known.now s c.args.predicates c.in-Some.join) c.get.ensures
    (subst (λ (l : List Plan). IsFilterGroup c.args.outer c.args.known.now c.get.result.now l c.in-Some.join) c.as_slice-tests.ensures found))
