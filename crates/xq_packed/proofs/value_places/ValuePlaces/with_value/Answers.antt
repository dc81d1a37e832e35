use Rattle.std.proofs.Common.{◌≡◌, ◌≤◌, ◌-◌, true, false, length, take, drop, sym, ap, ◌∙◌, subst, arith}
use Rattle.std.specs.Prelude.{filter}
use Rattle.std.specs.Ordering.{is_le, is_lt}
use Rattle.std.specs.List.Sorted.{IsPartitionPoint, IsSortedBy}
use Rattle.xq_packed.specs.Found.{comes_before, has_value, value_order}
use Rattle.xq_packed.proofs.ValueRuns.{in-order, with-value}
use Rattle.xq_packed.proofs.value_places.ValuePlaces.with_value.Goals as goal

pub returns : goal.returns
returns c = λ name h.
    let rows = c.args.rows.now.rows in
    let value = c.args.value.now in
    let places = c.self.inside.places.items in
    let low = c.count_before.result in
    let high = c.count_up_to-high.result in
    let up : IsSortedBy (comes_before rows) places = subst (IsSortedBy (comes_before rows)) (sym c.self.view_is) h.rise in
    let up_2 : IsSortedBy (comes_before rows) c.deref-2.result.now = subst (IsSortedBy (comes_before rows)) (sym c.deref-2.ensures.value) up in
    let up_1 : IsSortedBy (comes_before rows) c.deref.result.now = subst (IsSortedBy (comes_before rows)) (sym c.deref.ensures.value) up in
    let before : IsPartitionPoint (λ p. is_lt (value_order rows p value) ≡ true) (λ p. is_lt (value_order rows p value) ≡ false) places low =
    subst (λ ps. IsPartitionPoint (λ p. is_lt (value_order rows p value) ≡ true) (λ p. is_lt (value_order rows p value) ≡ false) ps low) c.deref-2.ensures.value (c.count_before.ensures.point up_2) in
    let up_to : IsPartitionPoint (λ p. is_le (value_order rows p value) ≡ true) (λ p. is_le (value_order rows p value) ≡ false) places high =
    subst (λ ps. IsPartitionPoint (λ p. is_le (value_order rows p value) ≡ true) (λ p. is_le (value_order rows p value) ≡ false) ps high) c.deref.ensures.value (c.count_up_to-high.ensures.point up_1) in
    let low_within : low ≤ length places = omega (arith, c.count_before.ensures.within, ap length c.deref-2.ensures.value) in
    let high_within : high ≤ length places = omega (arith, c.count_up_to-high.ensures.within, ap length c.deref.ensures.value) in
    let order : low ≤ high = in-order rows value places low high before up_to low_within high_within in
    let least : c.min-low.result ≡ low = omega (arith, c.min-low.ensures, order) in
    ap (λ n. take (high - n) (drop n c.deref-3.result.now)) least
    ∙ ap (λ ps. take (high - low) (drop low ps)) c.deref-3.ensures.value
    ∙ sym (with-value rows value places low high before up_to low_within high_within)
    ∙ ap (filter (has_value rows value)) c.self.view_is
    ∙ h.all value
