use Rattle.std.proofs.Common.{◌≡◌, ◌∷◌, [], ◌∙◌, ap, arith, refl}
use Rattle.xq_optimise.specs.private.Parts.{general_comparison}
use Rattle.xq_optimise.proofs.JoinLaws.{only_one}
use Rattle.xq_optimise.proofs.some_pairs.compares_one.Goals as goal

pub returns-then-is_texts : goal.returns-then-is_texts
returns-then-is_texts c = λ e.
    let range = c.range-item.result in
    let relation = c.in-Some.found.relation in
    let right = c.in-Some.found.right.now in
    let one : c.args.ranges.now ≡ range ∷ [] = only_one c.args.ranges.now range (omega arith) (omega arith) c.range-item.is in (
      relation,
      range,
      right,
      one,
      c.in-Some.ensures ∙ ap (λ left. general_comparison relation left right) (c.if-not-is_slot.ensures refl),
      c.if-is_texts.ensures.sure refl,
      c.is_texts-then-is_texts.ensures.sure e,
      c.is_texts-then-is_texts.ensures.below e,
    )
