use Rattle.std.proofs.Common.{◌≡◌, to_z, of_z, w64, sym, subst}
use Rattle.std.proofs.lemmas.Int.{to_z-of_z}
use Rattle.xq_eval.specs.declared.positions.ByPosition.TheVariants.{Within}
use Rattle.xq_eval.specs.private.Positions.{IsPlaceOf, KeepsSpan}
use Rattle.xq_eval.proofs.PositionRanges.{range_kept}
use Rattle.xq_eval.proofs.positions.range_span.Goals as goal

pub returns : goal.returns
returns c =
    let first = c.args.first in
    let last = c.args.last in
    let count = c.args.count in
    let start = c.place_of-start.result in
    let end = c.place_of-end.result in
    let same : to_z w64 (of_z w64 first) ≡ first = to_z-of_z w64 first c.ranges.first in
    let same' : to_z w64 (of_z w64 last) ≡ last = to_z-of_z w64 last c.ranges.last in
    let at_start = subst (λ n. IsPlaceOf n count start) same c.place_of-start.ensures in
    let at_end = subst (λ n. IsPlaceOf n count end) same' c.place_of-end.ensures in
    subst (λ n. KeepsSpan (Within first last) count (record { from = start.from; to = n })) (sym c.max.ensures) (range_kept first last count start end at_start at_end)
