use Rattle.std.proofs.Common.{[], ◌∷◌, ◌++◌, ◌≡◌, rules, subst}
use Rattle.std.specs.Prelude.{Some}
use Rattle.std.proofs.lemmas.Result.{IfOk-weaker}
use Rattle.xq_meaning.specs.declared.plans.Plan.TheVariants as plan
use Rattle.xq_meaning.specs.declared.plans.PlanStep.TheVariants as step
use Rattle.xq_optimise.specs.Same.{GivesSame}
use Rattle.xq_optimise.specs.declared.held.Held.TheVariants.{Nodes}
use Rattle.xq_optimise.specs.private.Invariants.{LiftsFirst}
use Rattle.xq_optimise.proofs.LiftedParts.{first_tested_by, of_lifted}
use Rattle.xq_optimise.proofs.LiftedSteps.{cut_path, held_alike}
use Rattle.xq_optimise.proofs.step_invariants.with_predicates.Goals as goal

pub returns-in-Some-clause-same : goal.returns-in-Some-clause-same
returns-in-Some-clause-same c =
    let known = c.args.known.now.items in
    let start = c.args.start in
    let before = c.args.before in
    let items = c.whole-items.result in
    let early = c.is_forward-early.result in
    let found_parts = c.in_ok-parts.field-0.parts in
    let found_predicates = c.in_ok-parts.field-0.predicates in
    let lifts = subst (λ k. LiftsFirst k early c.args.predicates found_parts found_predicates) c.deref.ensures.value c.in_ok-parts.ensures in
    let is : found_parts ≡ Some (c.in-Some.near, c.in-Some.part) = search rules in
    let same = subst (λ k. GivesSame k (plan.Path start before) items) c.deref-in-Some.ensures.value c.whole-items.ensures in
    IfOk-weaker c.with_part.result _ _
    (λ found h. of_lifted known early c.args.predicates found_predicates c.in-Some.near c.in-Some.part found_parts
    (λ l. GivesSame known (plan.Path start (before ++ step.Each (plan.Step c.args.axis c.args.test l) ∷ [])) found) is lifts
    (λ p q more at one near_by all. cut_path known start items before (step.Each (plan.Step c.args.axis c.args.test (p ∷ more))) found same
    (h p q more at one (first_tested_by c.args.axis c.in-Some.near early c.is_forward-early.ensures near_by) all (held_alike known Nodes (plan.Path start before) items same c.requires.nodes)))) c.with_part.ensures.stands
