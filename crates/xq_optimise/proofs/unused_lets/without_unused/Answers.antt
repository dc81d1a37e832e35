use Rattle.std.proofs.Common.{subst}
use Rattle.std.proofs.lemmas.Result.{IfOk-weaker}
use Rattle.xq_meaning.specs.declared.plans.Plan.TheVariants as plan
use Rattle.xq_optimise.specs.Same.{GivesSame}
use Rattle.xq_optimise.proofs.Forms as forms
use Rattle.xq_optimise.proofs.unused_lets.without_unused.Goals as goal

pub returns-clause-same : goal.returns-clause-same
returns-clause-same c =
    let known = c.args.known.now.items in
    let part = c.args.part.now in
    let once = c.in_ok-once.once in
    IfOk-weaker c.without_last-2.result _ _
    (λ found h. forms.then_gives known (plan.Flwor c.args.list part) (plan.Flwor once part) (plan.Flwor found part) c.in_ok-once.ensures.same
    (subst (λ k. GivesSame k (plan.Flwor once part) (plan.Flwor found part)) c.in_ok-once.ensures.kept h)) c.without_last-2.ensures.same
