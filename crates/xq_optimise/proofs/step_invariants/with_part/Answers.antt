use Rattle.std.proofs.Common.{◌≡◌, length, rules, subst}
use Rattle.std.proofs.lemmas.Result.{IfOk-weaker}
use Rattle.xq_optimise.specs.private.Parts.{IsHeld}
use Rattle.xq_optimise.proofs.LiftedSteps.{step_lifts_at}
use Rattle.xq_optimise.proofs.step_invariants.with_part.Goals as goal

pub returns-clause-stands : goal.returns-clause-stands
returns-clause-stands c =
    let known = c.args.known.now.items in
    let held = c.held_by-held.result in
    let also = c.held_by-also.result in
    let kept = subst (λ k. IsHeld k held c.args.items) c.deref.ensures.value c.held_by-held.ensures in
    let is = subst (λ k. IsHeld k also c.args.part) c.deref-2.ensures.value c.held_by-also.ensures in
    let here : c.len-slot.result ≡ length known = search rules in
    IfOk-weaker c.after_both.result _ _
    (λ found h. λ p q more at lifts turns outside nodes.
    step_lifts_at known c.len-slot.result c.args.predicates c.args.items c.args.near p c.args.part q c.in_ok-whole.whole c.in_ok-value.value found more c.args.axis c.args.test held also
    here at lifts turns outside nodes kept is c.in_ok-value.ensures c.in_ok-whole.ensures.same h) c.after_both.ensures
