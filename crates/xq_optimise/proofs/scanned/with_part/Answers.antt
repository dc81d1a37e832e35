use Rattle.std.proofs.Common.{sym, subst}
use Rattle.std.proofs.lemmas.Result.{IfOk-weaker}
use Rattle.xq_meaning.specs.declared.plans.Plan.TheVariants as plan
use Rattle.xq_meaning.specs.declared.plans.PlanStep.TheVariants as step
use Rattle.xq_optimise.specs.private.Parts.{MovesOn}
use Rattle.xq_optimise.proofs.WholePaths.{pushed_moves}
use Rattle.xq_optimise.proofs.scanned.with_part.Goals as goal

pub returns-then-is_judged_at_once : goal.returns-then-is_judged_at_once
returns-then-is_judged_at_once c =
    let known = c.args.known.now in
    let path = c.args.path in
    IfOk-weaker c.with_judged.result _ _
    (λ found h. subst (λ p. MovesOn known (step.Each p) path.start path.steps found.start found.steps) (sym c.in-Step.is) h) c.with_judged.ensures

pub returns-else-is_judged_at_once : goal.returns-else-is_judged_at_once
returns-else-is_judged_at_once c =
    let known = c.args.known.now in
    let path = c.args.path in
    IfOk-weaker c.pushed.result _ _
    (λ found h. subst (λ p. MovesOn known (step.Each p) path.start path.steps found.start found.steps) (sym c.in-Step.is)
    (pushed_moves known (step.Each (plan.Step c.in-Step.axis c.in-Step.test c.in-Step.predicates)) path.start found.start path.steps found.steps h)) c.pushed.ensures

pub returns-in_default : goal.returns-in_default
returns-in_default c =
    IfOk-weaker c.pushed-in_default.result _ _
    (λ found h. pushed_moves c.args.known.now (step.Each c.args.part) c.args.path.start found.start c.args.path.steps found.steps h) c.pushed-in_default.ensures
