use Rattle.std.proofs.Common.{◌≡◌, to_z, of_z, w64, sym, subst, rules}
use Rattle.std.specs.Prelude.{IfSome}
use Rattle.xq_eval.specs.declared.positions.ByPosition.TheVariants.{Compared, Within}
use Rattle.xq_eval.specs.private.Positions.{IsPlaceOf, KeepsSpan}
use Rattle.xq_eval.proofs.Spans.{number_kept}
use Rattle.xq_eval.proofs.positions.span_of.Goals as goal

pub returns-in-At : goal.returns-in-At
returns-in-At c =
    let number = c.in-At.number in
    let count = c.args.count in
    let same : to_z w64 (of_z w64 number) ≡ number = search rules in
    let is = subst (λ n. IsPlaceOf n count c.place_of.result) same c.place_of.ensures in
    subst (λ v. KeepsSpan v count c.place_of.result) (sym c.in-At.is) (number_kept number count c.place_of.result is)

pub returns-in-Compared : goal.returns-in-Compared
returns-in-Compared c =
    let number = c.in-Compared.number in
    let count = c.args.count in
    let found = c.compared_span.result in
    let same : to_z w64 (of_z w64 number) ≡ number = search rules in
    let kept = subst (λ n. IfSome found (λ span. KeepsSpan (Compared c.in-Compared.operator n) count span)) same c.compared_span.ensures in
    subst (λ v. IfSome found (λ span. KeepsSpan v count span)) (sym c.in-Compared.is) kept

pub returns-in-Within : goal.returns-in-Within
returns-in-Within c =
    let first = c.in-Within.first in
    let last = c.in-Within.last in
    let count = c.args.count in
    let span = c.range_span.result in
    let same : to_z w64 (of_z w64 first) ≡ first = search rules in
    let same' : to_z w64 (of_z w64 last) ≡ last = search rules in
    let kept = subst (λ n. KeepsSpan (Within n (to_z w64 (of_z w64 last))) count span) same c.range_span.ensures in
    subst (λ v. KeepsSpan v count span) (sym c.in-Within.is) (subst (λ n. KeepsSpan (Within first n) count span) same' kept)
