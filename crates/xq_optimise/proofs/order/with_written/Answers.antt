use Rattle.std.proofs.Common.{List, inr, ◌∙◌, subst}
use Rattle.std.specs.Prelude.{IfSome}
use Rattle.std.proofs.lemmas.Result.{IfOk-weaker}
use Rattle.xq_meaning.specs.declared.plans.Plan.{Plan}
use Rattle.xq_meaning.specs.declared.plans.PlanClause.{PlanClause}
use Rattle.xq_meaning.specs.declared.plans.PlanClause.TheVariants as clause
use Rattle.xq_optimise.specs.Sure.{IsTest}
use Rattle.xq_optimise.specs.private.Order.{SameBehind}
use Rattle.xq_optimise.proofs.order.with_written.Goals as goal

pub returns-in-Some : goal.returns-in-Some
returns-in-Some c =
    let known = c.args.known.now in
    let test = c.in-Some.test in
    let told = subst (λ o. IfSome o (λ (q : Plan). IsTest known q × SameBehind known c.as_slice.result.now c.get.result.now (clause.Where q))) c.in-Some.is c.in_ok-test.ensures in
    let behind = subst (λ (n : PlanClause). SameBehind known c.args.passed.items n (clause.Where test)) (c.get.ensures ∙ c.in_ok-next.ensures)
    (subst (λ (l : List PlanClause). SameBehind known l c.get.result.now (clause.Where test)) c.as_slice.ensures.value told.1) in
    IfOk-weaker c.with_first.result _ _ (λ after h. inr (test, told.0, behind, h)) c.with_first.ensures
