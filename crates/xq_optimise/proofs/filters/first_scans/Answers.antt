use Rattle.std.proofs.Common.{◌≡◌, ◌∷◌, ◌++◌, [], ◌∙◌, List, ap, sym, subst}
use Rattle.xq_trees.specs.declared.Axis.{Axis}
use Rattle.xq_meaning.specs.declared.node_tests.Test.{Test}
use Rattle.xq_meaning.specs.declared.plans.Plan.TheVariants as plan
use Rattle.xq_optimise.specs.private.Filters.{LeadsTo}
use Rattle.xq_optimise.proofs.FilterLaws.{step_leads}
use Rattle.xq_optimise.proofs.filters.first_scans.Goals as goal

pub returns-in_ok-push-in-Step : goal.returns-in_ok-push-in-Step
returns-in_ok-push-in-Step c =
    let axis = c.in-Step.axis in
    let test = c.in-Step.test in
    let none : c.in-Step.predicates ≡ [] = c.is_empty.ensures.0 c.if-not-is_empty.false in
    let one : c.push.new.self ≡ (axis, test) ∷ [] =
    c.in_ok-push-in-Step.ensures.ok ∙ ap (λ (l : List (Axis × Test)). l ++ (axis, c.in_ok-test-in-Step.field-0) ∷ []) c.new-scans.ensures
    ∙ ap (λ (t : Test). (axis, t) ∷ []) c.in_ok-test-in-Step.ensures in
    subst (λ (l : List (Axis × Test)). LeadsTo l c.args.plan.now) (sym one)
    (step_leads c.args.plan.now axis test (c.in-Step.is ∙ ap (plan.Step axis test) none) (c.passes_documents.ensures c.if-passes_documents.false))
