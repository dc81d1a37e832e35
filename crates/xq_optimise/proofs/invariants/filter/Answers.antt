use Rattle.std.proofs.Common.{subst}
use Rattle.std.proofs.lemmas.Result.{IfOk-weaker}
use Rattle.xq_meaning.specs.declared.plans.Plan.TheVariants as plan
use Rattle.xq_optimise.specs.Same.{GivesSame}
use Rattle.xq_optimise.proofs.Forms as forms
use Rattle.xq_optimise.proofs.invariants.filter.Goals as goal

pub returns-clause-same : goal.returns-clause-same
returns-clause-same c =
    let known = c.args.known.now.items in
    let start = c.args.start in
    let kept = subst (λ k. GivesSame k (plan.Filter start c.args.predicates) (plan.Filter start c.in_ok-kept.kept)) c.deref.ensures.value
    (subst (λ p. GivesSame c.deref.result.now (plan.Filter p c.args.predicates) (plan.Filter p c.in_ok-kept.kept)) c.get.ensures c.in_ok-kept.ensures) in
    IfOk-weaker c.filtered.result _ _
    (λ found h. forms.then_gives known (plan.Filter start c.args.predicates) (plan.Filter start c.in_ok-kept.kept) found kept h) c.filtered.ensures.same
