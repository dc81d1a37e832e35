-- A group join stands for a path whose last step has a predicate that compares a key of each node.
use Rattle.std.proofs.Common.{ℕ, List, [], ◌∷◌, ◌++◌, refl, sym, ◌∙◌, subst}
use Rattle.xq_trees.specs.declared.Axis.{Axis}
use Rattle.xq_trees.proofs.Lists.{all_append}
use Rattle.xq_meaning.specs.declared.joins.Join.{Join}
use Rattle.xq_meaning.specs.declared.node_tests.Test.{Test}
use Rattle.xq_meaning.specs.declared.plans.Plan.{Plan}
use Rattle.xq_meaning.specs.declared.plans.Plan.TheVariants as plan
use Rattle.xq_meaning.specs.declared.plans.PlanStep.{PlanStep}
use Rattle.xq_meaning.specs.declared.plans.PlanStep.TheVariants as step
use Rattle.xq_optimise.specs.declared.held.Held.{Held}
use Rattle.xq_optimise.specs.declared.held.Held.TheVariants as has
use Rattle.xq_optimise.specs.declared.group_joins.LetValue.TheVariants as let_value
use Rattle.xq_optimise.specs.Same.{GivesSame}
use Rattle.xq_optimise.specs.private.Filters.{IsStepGroup}
use Rattle.xq_optimise.specs.private.GroupValues.{IsLetOf}
use Rattle.xq_optimise.specs.private.Joins.{IsOutside, StepOutside}
use Rattle.xq_optimise.specs.private.Parts.{IsHeld}
use Rattle.xq_optimise.proofs.FilterLaws.{filter_same}
use Rattle.xq_optimise.proofs.Forms.{then_gives}
use Rattle.xq_optimise.proofs.GroupMatches.{group_found}
use Rattle.xq_optimise.proofs.Scans.{path_held_at, scan_after}
use Rattle.xq_optimise.proofs.SlotsOutside.{path_outside, scan_outside}
use Rattle.xq_optimise.proofs.WholePaths.{path_alone, tests_move}

pub step_group_found : (outer : ℕ) (known : List Held) (start : Plan) (steps : List PlanStep) (axis : Axis) (test : Test) (ps : List Plan) (join : Join) →
    IsStepGroup outer known start steps ps join →
    IsLetOf outer known (plan.Path start (steps ++ step.Each (plan.Step axis test ps) ∷ [])) (let_value.Group (plan.Path start (steps ++ step.Scan axis test ∷ [])) join)
step_group_found outer known start steps axis test ps join (p, one, keeps, outside, all, compares) =
    subst (λ l. IsLetOf outer known (plan.Path start (steps ++ step.Each (plan.Step axis test l) ∷ [])) (let_value.Group range join)) (sym one)
    (group_found outer known range whole join compares.3 reads.1
    (λ slots focus addresses long t fits f.
    filter_same outer known range p join holds reads compares slots focus addresses long t fits f ∙ same (slots ++ t) focus addresses f fits))
  where
    scan : PlanStep
    scan = step.Scan axis test

    range : Plan
    range = plan.Path start (steps ++ scan ∷ [])

    whole : Plan
    whole = plan.Path start (steps ++ step.Each (plan.Step axis test (p ∷ [])) ∷ [])

    holds : IsHeld known has.Nodes range
    holds = path_held_at known range start (steps ++ scan ∷ []) refl (steps, scan, refl, scan_after scan (axis, test, refl))

    reads : IsOutside outer range
    reads =
        path_outside outer start (steps ++ scan ∷ []) range refl outside
        (all_append (StepOutside outer) steps (scan ∷ []) all (scan_outside outer axis test scan refl, tt))

    same : GivesSame known whole (plan.Filter range (p ∷ []))
    same =
        then_gives known whole (plan.Path (plan.Filter range (p ∷ [])) []) (plan.Filter range (p ∷ []))
        (tests_move known axis test (p ∷ []) (keeps, tt) (step.Each (plan.Step axis test (p ∷ []))) start (plan.Filter range (p ∷ [])) steps refl refl
        start steps (λ slots focus addresses trees fits. refl))
        (path_alone known (plan.Filter range (p ∷ [])))
