use Rattle.std.proofs.Common.{◌≡◌, ◌∷◌, sym, ap, ◌∙◌, rules, w64, to_z, of_z, drop}
use Rattle.xq_eval.proofs.Choosing.{literal_suffices, positive, first_is}
use Rattle.xq_eval.proofs.chosen.sufficient.Goals as goal

pub returns-then-number-gt0 : goal.returns-then-number-gt0
returns-then-number-gt0 c =
    let back : to_z w64 (of_z w64 c.in-Int.number) ≡ c.in-Int.number = search rules in
    let all = first_is c.args.predicates.now c.in_ok-number.field-0.now c.in_ok-number.ensures.item.0 c.in_ok-number.ensures.item.1 in
    literal_suffices c.args.predicates.now c.in-Int.number _ (drop 1 c.args.predicates.now) (all ∙ ap (λ p. p ∷ drop 1 c.args.predicates.now) c.in-Int.is)
    (sym back ∙ positive _ c.if-number-gt0.true)
