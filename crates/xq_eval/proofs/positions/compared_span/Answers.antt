use Rattle.std.proofs.Common.{◌≡◌, to_z, of_z, w64, sym, subst}
use Rattle.std.proofs.lemmas.Int.{to_z-of_z}
use Rattle.xq_eval.specs.declared.positions.ByPosition.TheVariants.{Compared}
use Rattle.xq_eval.specs.private.Positions.{IsPlaceOf, KeepsSpan}
use Rattle.xq_eval.proofs.Spans.{equal_kept, less_kept, at_most_kept, greater_kept, at_least_kept}
use Rattle.xq_eval.proofs.positions.compared_span.Goals as goal

pub returns-in-Eq : goal.returns-in-Eq
returns-in-Eq c =
    let number = c.args.number in
    let count = c.args.count in
    let place = c.place_of-place.result in
    let same : to_z w64 (of_z w64 number) ≡ number = to_z-of_z w64 number c.ranges.number in
    let is = subst (λ n. IsPlaceOf n count place) same c.place_of-place.ensures in
    subst (λ op. KeepsSpan (Compared op number) count (place)) (sym c.in-Eq.is) (equal_kept number count place is)

pub returns-in-Lt : goal.returns-in-Lt
returns-in-Lt c =
    let number = c.args.number in
    let count = c.args.count in
    let place = c.place_of-place.result in
    let same : to_z w64 (of_z w64 number) ≡ number = to_z-of_z w64 number c.ranges.number in
    let is = subst (λ n. IsPlaceOf n count place) same c.place_of-place.ensures in
    subst (λ op. KeepsSpan (Compared op number) count (record { from = 0; to = place.from })) (sym c.in-Lt.is) (less_kept number count place is)

pub returns-in-Le : goal.returns-in-Le
returns-in-Le c =
    let number = c.args.number in
    let count = c.args.count in
    let place = c.place_of-place.result in
    let same : to_z w64 (of_z w64 number) ≡ number = to_z-of_z w64 number c.ranges.number in
    let is = subst (λ n. IsPlaceOf n count place) same c.place_of-place.ensures in
    subst (λ op. KeepsSpan (Compared op number) count (record { from = 0; to = place.to })) (sym c.in-Le.is) (at_most_kept number count place is)

pub returns-in-Gt : goal.returns-in-Gt
returns-in-Gt c =
    let number = c.args.number in
    let count = c.args.count in
    let place = c.place_of-place.result in
    let same : to_z w64 (of_z w64 number) ≡ number = to_z-of_z w64 number c.ranges.number in
    let is = subst (λ n. IsPlaceOf n count place) same c.place_of-place.ensures in
    subst (λ op. KeepsSpan (Compared op number) count (record { from = place.to; to = count })) (sym c.in-Gt.is) (greater_kept number count place is)

pub returns-in-Ge : goal.returns-in-Ge
returns-in-Ge c =
    let number = c.args.number in
    let count = c.args.count in
    let place = c.place_of-place.result in
    let same : to_z w64 (of_z w64 number) ≡ number = to_z-of_z w64 number c.ranges.number in
    let is = subst (λ n. IsPlaceOf n count place) same c.place_of-place.ensures in
    subst (λ op. KeepsSpan (Compared op number) count (record { from = place.from; to = count })) (sym c.in-Ge.is) (at_least_kept number count place is)
