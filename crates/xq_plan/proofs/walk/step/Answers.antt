use Rattle.std.proofs.Common.{◌≡◌, [], sym, ap, ◌∙◌, subst}
use Rattle.xq_meaning.specs.declared.plans.Plan.TheVariants as plan
use Rattle.xq_meaning.specs.declared.plans.PlanStep.TheVariants as step
use Rattle.xq_plan.specs.private.Plans.{IsScanOrPart}
use Rattle.xq_plan.proofs.Forms.{scan_gives}
use Rattle.xq_plan.proofs.Shapes.{same_scan}
use Rattle.xq_plan.proofs.walk.step.Goals as goal

pub returns-then-is_empty-clause-same : goal.returns-then-is_empty-clause-same
returns-then-is_empty-clause-same c =
    let none : c.in-Step.predicates ≡ [] = c.is_empty.ensures.0 c.if-is_empty.true in
    subst (λ p. IsScanOrPart p (step.Scan c.in-Step.axis c.in-Step.tested))
    (sym (c.in-Step.is ∙ ap (plan.Step c.in-Step.axis c.in-Step.tested) none))
    (scan_gives c.in-Step.axis c.in-Step.tested)

pub returns-then-is_empty-clause-scan : goal.returns-then-is_empty-clause-scan
returns-then-is_empty-clause-scan c = λ axis t e.
    same_scan c.in-Step.axis axis c.in-Step.tested t c.in-Step.predicates [] (sym c.in-Step.is ∙ e)
