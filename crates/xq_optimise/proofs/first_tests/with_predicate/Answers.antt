use Rattle.std.proofs.Common.{◌∷◌, [], ap, false, reverse, subst, sym, ◌∙◌}
use Rattle.std.proofs.lemmas.Result.{IfOk-weaker}
use Rattle.xq_expressions.specs.declared.operators.AllowingEmpty.TheVariants as allowing
use Rattle.xq_meaning.specs.declared.plans.Plan.TheVariants as plan
use Rattle.xq_meaning.specs.declared.plans.PlanClause.TheVariants as clause
use Rattle.xq_optimise.specs.private.FirstTests.{SameClausesOf}
use Rattle.xq_optimise.proofs.FirstTests.{first_range, with_one}
use Rattle.xq_optimise.proofs.first_tests.with_predicate.Goals as goal

pub returns-clause-same : goal.returns-clause-same
returns-clause-same c =
    let known = c.args.known.now.items in
    let kept = plan.Filter c.args.range (c.args.predicate ∷ []) in
    let found = c.in_ok-found.found in
    let rest = reverse c.args.left.items in
    IfOk-weaker c.with_next.result _ _
    (λ after h. subst (SameClausesOf known (clause.For allowing.No false kept ∷ rest))
    (sym (with_one c.args.left.items after.items c.for_each.result h ∙ ap (λ x. x ∷ rest) c.for_each.ensures))
    (first_range known kept found rest c.in_ok-found.ensures.same)) c.with_next.ensures
