use Rattle.std.proofs.Common.{rules, ◌≡◌, ◌∷◌, length, refl, sym, ◌∙◌}
use Rattle.std.proofs.lemmas.Bool.{true≢false}
use Rattle.xq_packed.proofs.Judging.{others_decide, not_distinct, none_distinct}
use Rattle.xq_packed.proofs.judged.are_few_distinct.Goals as goal

pub returns-then-has_number : goal.returns-then-has_number
returns-then-has_number c =
    let is : c.loop-first.rest.now ≡ c.in-Some.first.now ∷ c.in-Some.after.now = search rules in
    let some = sym c.has_number.ensures ∙ c.if-has_number.true in
    (λ t. absurd (true≢false (sym t)), λ d. absurd (not_distinct c.loop-first.rest.now c.in-Some.after.now c.in-Some.first.now is some (c.loop-first.invariant.0 d)))

pub loop-first-preserved : goal.loop-first-preserved
loop-first-preserved c =
    let is : c.loop-first.rest.now ≡ c.in-Some.first.now ∷ c.in-Some.after.now = search rules in
    let none = sym c.has_number.ensures ∙ c.if-has_number.false in
    let here = others_decide c.loop-first.rest.now c.in-Some.after.now c.in-Some.first.now is none in
    (λ d. here.0 (c.loop-first.invariant.0 d), λ d. c.loop-first.invariant.1 (here.1 d))

pub returns : goal.returns
returns c =
    let is : length c.loop-first.rest.now ≡ 0 = search rules in
    (λ t. c.loop-first.invariant.1 (none_distinct c.loop-first.rest.now is), λ d. refl)
