use Rattle.std.proofs.Common.{◌≡◌, ◌∙◌, to_z, of_z, w64, sym, subst, rules}
use Rattle.std.proofs.lemmas.Int.{to_z-of_z}
use Rattle.xq_eval.specs.declared.positions.ByPosition.TheVariants.{Within}
use Rattle.xq_eval.specs.private.Positions.{IsPositional}
use Rattle.xq_eval.proofs.PositionRanges.{position_in_range, range_has_position}
use Rattle.xq_eval.proofs.positions.within.Goals as goal

pub returns-then-is_position : goal.returns-then-is_position
returns-then-is_position c = λ count all.
    let it = c.in_ok-asked.asked in
    let slots = c.args.slots.now in
    let p = c.args.predicate.now in
    let from = c.in_ok-range.range.first in
    let to = c.in_ok-range.range.last in
    let last : to_z w64 (of_z w64 c.args.last) ≡ c.args.last = to_z-of_z w64 c.args.last c.ranges.last in
    let same : to_z w64 (of_z w64 from) ≡ from = search rules in
    let same' : to_z w64 (of_z w64 to) ≡ to = search rules in
    let given = position_in_range slots it.left.now it.right.now p count from to c.in_ok-asked.ensures (c.is_position.ensures c.if-is_position.true) (c.in_ok-range.ensures count (last ∙ all)) in
    subst (λ m. IsPositional slots p count (Within m (to_z w64 (of_z w64 to)))) (sym same) (subst (λ n. IsPositional slots p count (Within from n)) (sym same') given)

pub returns-then-is_position-2 : goal.returns-then-is_position-2
returns-then-is_position-2 c = λ count all.
    let it = c.in_ok-asked.asked in
    let slots = c.args.slots.now in
    let p = c.args.predicate.now in
    let from = c.in_ok-range-2.range.first in
    let to = c.in_ok-range-2.range.last in
    let last : to_z w64 (of_z w64 c.args.last) ≡ c.args.last = to_z-of_z w64 c.args.last c.ranges.last in
    let same : to_z w64 (of_z w64 from) ≡ from = search rules in
    let same' : to_z w64 (of_z w64 to) ≡ to = search rules in
    let given = range_has_position slots it.left.now it.right.now p count from to c.in_ok-asked.ensures (c.is_position-2.ensures c.if-is_position-2.true) (c.in_ok-range-2.ensures count (last ∙ all)) in
    subst (λ m. IsPositional slots p count (Within m (to_z w64 (of_z w64 to)))) (sym same) (subst (λ n. IsPositional slots p count (Within from n)) (sym same') given)
