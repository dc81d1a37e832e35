-- Which plans are paths of scans from a document.
use Rattle.std.proofs.Common.{◌≡◌, List, [], ◌∷◌, map, refl, sym, ap, ◌∙◌, subst}
use Rattle.std.specs.List.{AllByRecursion}
use Rattle.xq_trees.specs.declared.Axis.{Axis}
use Rattle.xq_meaning.specs.declared.node_tests.Test.{Test}
use Rattle.xq_meaning.specs.declared.plans.Plan.{Plan, out-Plan}
use Rattle.xq_meaning.specs.declared.plans.Plan.TheOpen.{Plan-F}
use Rattle.xq_meaning.specs.declared.plans.Plan.TheVariants as plan
use Rattle.xq_meaning.specs.declared.plans.PlanClause.{PlanClause}
use Rattle.xq_meaning.specs.declared.plans.PlanStep.{PlanStep}
use Rattle.xq_meaning.specs.declared.plans.PlanStep.TheVariants as step
use Rattle.xq_optimise.specs.Scans.{IsNoPathOfScans}
use Rattle.xq_optimise.specs.private.Parts.{IsScan}

abbrev steps_in : Plan-F Plan PlanClause PlanStep → List PlanStep
steps_in (Plan-F.Path start steps) = steps
steps_in form = []

same_steps : (a c : Plan) (b d : List PlanStep) → plan.Path a b ≡ plan.Path c d → b ≡ d
same_steps a c b d e =
    sym (ap steps_in (plan.outs-Path a b)) ∙ ap (λ p. steps_in (out-Plan p)) e ∙ ap steps_in (plan.outs-Path c d)

all_scans : (steps : List (Axis × Test)) → AllByRecursion IsScan (map (λ s. step.Scan s.0 s.1) steps)
all_scans [] = tt
all_scans (s ∷ steps) = ((s.0, s.1, refl), all_scans steps)

-- a path with a step that is no scan
pub no_path_of_scans : (p start : Plan) (steps : List PlanStep) → p ≡ plan.Path start steps →
    (AllByRecursion IsScan steps → ⊥) → IsNoPathOfScans p
no_path_of_scans p start steps is not-all address scans e =
    not-all (subst (AllByRecursion IsScan) (sym (same_steps start _ steps (map (λ s. step.Scan s.0 s.1) scans) (sym is ∙ e))) (all_scans scans))
