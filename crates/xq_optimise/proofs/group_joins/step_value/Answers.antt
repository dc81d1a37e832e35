use Rattle.std.proofs.Common.{◌++◌, ◌∷◌, [], List, Option, sym, subst}
use Rattle.std.specs.Prelude.{IfSome}
use Rattle.xq_meaning.specs.declared.joins.Join.{Join}
use Rattle.xq_meaning.specs.declared.plans.Plan.{Plan}
use Rattle.xq_meaning.specs.declared.plans.Plan.TheVariants as plan
use Rattle.xq_meaning.specs.declared.plans.PlanStep.{PlanStep}
use Rattle.xq_meaning.specs.declared.plans.PlanStep.TheVariants as step
use Rattle.xq_optimise.specs.declared.group_joins.LetValue.TheVariants as let_value
use Rattle.xq_optimise.specs.private.Filters.{IsStepGroup}
use Rattle.xq_optimise.specs.private.GroupValues.{IsLetOf}
use Rattle.xq_optimise.proofs.StepGroups.{step_group_found}
use Rattle.xq_optimise.proofs.group_joins.step_value.Goals as goal

pub returns-in_ok-push-in-Some : goal.returns-in_ok-push-in-Some
returns-in_ok-push-in-Some c =
    let outer = c.args.outer in
    let known = c.args.known.now in
    let path = c.args.path in
    let join = c.in-Some.join in
    let found = subst (λ (o : Option Join). IfSome o (λ j. IsStepGroup outer known c.get.result.now c.as_slice.result.now c.as_slice-2.result.now j)) c.in-Some.is c.in_ok-found.ensures in
    let group = subst (λ (s : Plan). IsStepGroup outer known s path.steps c.args.predicates join) c.get.ensures
    (subst (λ (l : List PlanStep). IsStepGroup outer known c.get.result.now l c.args.predicates join) c.as_slice.ensures
    (subst (λ (l : List Plan). IsStepGroup outer known c.get.result.now c.as_slice.result.now l join) c.as_slice-2.ensures found)) in
    subst (λ (l : List PlanStep). IsLetOf outer known (plan.Path path.start (path.steps ++ step.Each (plan.Step c.args.axis c.args.test c.args.predicates) ∷ [])) (let_value.Group (plan.Path path.start l) join))
    (sym c.in_ok-push-in-Some.ensures.ok)
    (step_group_found outer known path.start path.steps c.args.axis c.args.test c.args.predicates join group)
