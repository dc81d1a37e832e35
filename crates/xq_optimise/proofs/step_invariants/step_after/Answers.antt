use Rattle.std.proofs.Common.{◌≡◌, ◌∙◌, ◌∷◌, ◌++◌, [], ℕ, ap, length, rules, subst}
use Rattle.xq_meaning.specs.declared.plans.Plan.TheVariants as plan
use Rattle.xq_meaning.specs.declared.plans.PlanStep.TheVariants as step
use Rattle.xq_optimise.specs.Same.{GivesSame}
use Rattle.xq_optimise.proofs.step_invariants.step_after.Goals as goal

pub returns-clause-same : goal.returns-clause-same
returns-clause-same c =
    let known = c.args.known.now.items in
    let all = (known ++ c.args.items ∷ []) ++ c.args.value ∷ [] in
    let path = λ (n : ℕ). plan.Path (plan.Slot n) (step.Each (plan.Step c.args.axis c.args.test c.args.predicates) ∷ []) in
    let whole = c.deref.ensures.value ∙ c.in_ok-push-2.ensures.items ∙ ap (λ l. l ++ c.args.value ∷ []) c.in_ok-push.ensures.items in
    let here : c.len-slot.result ≡ length known = search rules in
    subst (λ n. GivesSame all (path n) c.in_ok-whole.whole) here
    (subst (λ k. GivesSame k (path c.len-slot.result) c.in_ok-whole.whole) whole c.in_ok-whole.ensures)
