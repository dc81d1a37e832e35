use Rattle.std.proofs.Common.{◌≡◌, ◌+◌, true, max, inl, inr, refl, sym, ◌∙◌, ap, arith}
use Rattle.std.proofs.lemmas.Bool.{cases_lt}
use Rattle.xq_axes.specs.private.Hits.{below_where}
use Rattle.xq_axes.proofs.Picking.{picked}
use Rattle.xq_axes.proofs.attributes.add_places.Goals as goal

pub loop-place-init : goal.loop-place-init
loop-place-init c = record { none = λ _. refl; added = λ wanted all so_far. so_far }

pub loop-place-preserved : goal.loop-place-preserved
loop-place-preserved c =
    let place = c.loop-place.place in
    record {
      none = λ l. absurd (let e = c.loop-place.invariant.none l in omega (arith, e, l));
      added = λ wanted all so_far. (
          let hit : true ≡ wanted place = sym (all place (omega arith) (omega arith)) in
          c.in_ok-push.ensures.ok ∙ picked wanted place c.loop-place.places.items true (c.loop-place.invariant.added wanted all so_far) hit);
    }

pub returns : goal.returns
returns c = λ wanted all so_far. (
    let low = c.args.low in
    let high = c.args.high in
    let place = c.loop-place.place in
    let end : place ≡ max low (high + 1) = elim (cases_lt high low) [
      | inl none ↦ (let e = c.loop-place.invariant.none none in omega (arith, e, none))
      | inr some ↦ absurd (let e = c.loop-place.auto.place-end some in omega (arith, e))
    ] in
    c.loop-place.invariant.added wanted all so_far ∙ ap (below_where wanted) end)

pub returns-in_ok-push : goal.returns-in_ok-push
returns-in_ok-push c = λ wanted all so_far. (
    let place = c.loop-place.place in
    let hit : true ≡ wanted place = sym (all place (omega arith) (omega arith)) in
    let end : place + 1 ≡ max c.args.low (c.args.high + 1) = omega arith in
    c.in_ok-push.ensures.ok ∙ picked wanted place c.loop-place.places.items true (c.loop-place.invariant.added wanted all so_far) hit ∙ ap (below_where wanted) end)
