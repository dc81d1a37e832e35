use Rattle.std.proofs.Common.{[], ◌∷◌, ◌+◌, length, Option, refl, sym, subst}
use Rattle.std.specs.Prelude.{IfSome}
use Rattle.xq_meaning.specs.declared.plans.Plan.{Plan}
use Rattle.std.proofs.lemmas.Result.{IfOk-weaker}
use Rattle.xq_meaning.specs.declared.plans.Plan.TheVariants as plan
use Rattle.xq_optimise.specs.private.Invariants.{IsNear, IsNearBy, LiftsTo}
use Rattle.xq_optimise.proofs.LiftedParts.{right_lifts}
use Rattle.xq_optimise.proofs.invariants.lifted_right.Goals as goal

pub returns-in-Some : goal.returns-in-Some
returns-in-Some c =
    let known = c.args.known.now in
    let a = c.args.left in
    let b = c.args.right in
    let p = plan.Chain a ((c.args.operator, b) ∷ []) in
    let q = plan.Chain a ((c.args.operator, plan.Slot (length known + 1)) ∷ []) in
    let led = subst (λ (o : Option Plan). IfSome o (λ near. IsNear c.get.result.now near × IsNearBy c.args.early near)) c.in-Some.is c.in_ok-near.ensures in
    IfOk-weaker c.with_right.result _ _
    (λ found h. subst (LiftsTo known c.args.early p) (sym h)
    (right_lifts known c.in-Some.near p a b q c.args.operator refl refl (subst (λ l. IsNear l c.in-Some.near) c.get.ensures led.0) c.requires.left c.requires.right c.requires.free, led.1))
    c.with_right.ensures
