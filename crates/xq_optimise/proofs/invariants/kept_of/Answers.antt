use Rattle.std.proofs.Common.{◌≡◌, rules, subst, true}
use Rattle.std.specs.Prelude.{Some}
use Rattle.std.proofs.lemmas.Result.{IfOk-weaker}
use Rattle.xq_meaning.specs.declared.plans.Plan.TheVariants as plan
use Rattle.xq_optimise.specs.Same.{GivesSame}
use Rattle.xq_optimise.specs.private.Invariants.{LiftsFirst}
use Rattle.xq_optimise.proofs.LiftedParts.{of_lifted}
use Rattle.xq_optimise.proofs.invariants.kept_of.Goals as goal

pub returns-in-Some-clause-same : goal.returns-in-Some-clause-same
returns-in-Some-clause-same c =
    let known = c.args.known.now.items in
    let found_parts = c.in_ok-parts.field-0.parts in
    let found_predicates = c.in_ok-parts.field-0.predicates in
    let lifts = subst (λ k. LiftsFirst k true c.args.predicates found_parts found_predicates) c.deref.ensures.value c.in_ok-parts.ensures in
    let is : found_parts ≡ Some (c.in-Some.near, c.in-Some.part) = search rules in
    IfOk-weaker c.with_part.result _ _
    (λ found h. of_lifted known true c.args.predicates found_predicates c.in-Some.near c.in-Some.part found_parts (λ l. GivesSame known (plan.Filter c.args.start l) found) is lifts
    (λ p q more at one near_by all. h p q more at one all c.requires.nodes)) c.with_part.ensures.stands
