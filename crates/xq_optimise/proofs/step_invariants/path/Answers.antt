use Rattle.std.proofs.Common.{subst}
use Rattle.std.proofs.lemmas.Result.{IfOk-weaker}
use Rattle.xq_meaning.specs.declared.plans.Plan.TheVariants as plan
use Rattle.xq_optimise.specs.Same.{GivesSame}
use Rattle.xq_optimise.proofs.Forms as forms
use Rattle.xq_optimise.proofs.step_invariants.path.Goals as goal

pub returns-in-Path-clause-same : goal.returns-in-Path-clause-same
returns-in-Path-clause-same c =
    let known = c.args.known.now.items in
    let whole = plan.Path c.args.start c.args.steps in
    let scanned = subst (λ k. GivesSame k whole c.in_ok-other.other) c.deref.ensures.value c.in_ok-other.ensures in
    IfOk-weaker c.with_last.result _ _
    (λ found h. forms.then_gives known whole (plan.Path c.in-Path.start c.in-Path.steps) found (subst (GivesSame known whole) c.in-Path.is scanned) h) c.with_last.ensures.same
