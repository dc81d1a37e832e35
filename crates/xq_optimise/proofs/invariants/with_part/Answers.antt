use Rattle.std.proofs.Common.{[], ◌∷◌, ◌++◌, ◌≡◌, ap, length, rules, subst, ◌∙◌}
use Rattle.std.proofs.lemmas.Result.{IfOk-weaker}
use Rattle.xq_optimise.specs.private.Invariants.{let_in}
use Rattle.xq_optimise.specs.private.Parts.{IsHeld}
use Rattle.xq_optimise.proofs.LiftedParts.{filter_lifts_at}
use Rattle.xq_optimise.proofs.invariants.with_part.Goals as goal

pub returns-clause-stands : goal.returns-clause-stands
returns-clause-stands c =
    let known = c.args.known.now.items in
    let held = c.held_by-items.result in
    let also = c.held_by-held.result in
    let kept = subst (λ k. IsHeld k held c.args.start) c.deref.ensures.value (subst (IsHeld c.deref.result.now held) c.get.ensures c.held_by-items.ensures) in
    let is = subst (λ k. IsHeld k also c.args.part) c.deref-2.ensures.value c.held_by-held.ensures in
    let whole = c.deref-3.ensures.value ∙ c.in_ok-push-2.ensures.items ∙ ap (λ l. l ++ also ∷ []) c.in_ok-push.ensures.items in
    let here : c.len-slot.result ≡ length known = search rules in
    IfOk-weaker c.after_both.result _ _
    (λ found h. λ p q more at lifts outside nodes.
    filter_lifts_at known c.deref-3.result.now c.len-slot.result c.args.predicates c.args.start c.args.near p c.args.part q c.in_ok-whole.whole found more held also
    here whole at lifts outside nodes kept is c.in_ok-whole.ensures
    (h ∙ ap (λ s. let_in s (let_in c.in_ok-value.value c.in_ok-whole.whole)) c.into_inner.ensures
    ∙ ap (λ v. let_in c.args.start (let_in v c.in_ok-whole.whole)) c.in_ok-value.ensures)) c.after_both.ensures
