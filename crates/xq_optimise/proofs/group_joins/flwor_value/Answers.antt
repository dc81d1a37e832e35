use Rattle.std.proofs.Common.{List, length, subst}
use Rattle.xq_meaning.specs.declared.plans.Plan.{Plan}
use Rattle.xq_meaning.specs.declared.plans.PlanClause.{PlanClause}
use Rattle.xq_optimise.specs.private.GroupValues.{IsGroup}
use Rattle.xq_optimise.proofs.GroupMatches.{popped_found}
use Rattle.xq_optimise.proofs.group_joins.flwor_value.Goals as goal

pub returns-in-Join : goal.returns-in-Join
returns-in-Join c =
    let told = c.is_group.ensures c.if-not-is_group.false in
    popped_found c.args.outer c.args.known.now c.args.list c.pop.new.self c.in-Some.clause c.args.part c.in-Join.range c.in-Join.join
    (subst (λ (p : Plan). IsGroup c.args.outer (length c.args.known.now) c.args.list p) c.get.ensures (subst (λ (l : List PlanClause). IsGroup c.args.outer (length c.args.known.now) l c.get.result.now) c.as_slice.ensures told))
    c.in-Some.ensures c.in-Join.is
