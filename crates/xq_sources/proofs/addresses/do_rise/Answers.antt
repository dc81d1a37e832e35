use Rattle.std.proofs.Common.{◌≡◌, ◌-◌, ◌+◌, suc, map, string_bytes, Some, sym, ap, subst, ◌∙◌, arith}
use Rattle.std.specs.Prelude.{slice_get, take}
use Rattle.std.proofs.lemmas.Bool.{false≢true}
use Rattle.xq_sources.specs.Addresses.{Rise}
use Rattle.xq_sources.proofs.Rising.{as_far, rise_one_more, text_at}
use Rattle.xq_sources.proofs.addresses.do_rise.Goals as goal

pub returns-then-not-comes_before : goal.returns-then-not-comes_before
returns-then-not-comes_before c =
    let n = c.loop-next.next in
    let list = c.args.list.now in
    let first = text_at list (n - 1) c.index-list-next.result (omega arith) c.index-list-next.is ∙ ap Some (sym c.as_str.ensures.value) in
    let next : suc (n - 1) ≡ n = omega arith in
    let second = ap (slice_get (map string_bytes list)) next ∙ text_at list n c.index-list-next-in-loop-next.result (omega arith) c.index-list-next-in-loop-next.is ∙ ap Some (sym c.as_str-in-loop-next.ensures.value) in (
      (λ no. absurd (false≢true no)),
      (λ up. absurd (false≢true (sym c.if-not-comes_before.true ∙ c.comes_before.ensures.1 (as_far (map string_bytes list) (n - 1) c.as_str.result.now c.as_str-in-loop-next.result.now up first second)))),
    )

pub loop-next-preserved : goal.loop-next-preserved
loop-next-preserved c =
    let n = c.loop-next.next in
    let list = c.args.list.now in
    let first = text_at list (n - 1) c.index-list-next.result (omega arith) c.index-list-next.is ∙ ap Some (sym c.as_str.ensures.value) in
    let next : suc (n - 1) ≡ n = omega arith in
    let second = ap (slice_get (map string_bytes list)) next ∙ text_at list n c.index-list-next-in-loop-next.result (omega arith) c.index-list-next-in-loop-next.is ∙ ap Some (sym c.as_str-in-loop-next.ensures.value) in
    let last : suc (suc (n - 1)) ≡ n + 1 = omega arith in
    subst (λ k. Rise (take k (map string_bytes list))) last
    (rise_one_more (map string_bytes list) (n - 1) c.as_str.result.now c.as_str-in-loop-next.result.now (subst (λ k. Rise (take k (map string_bytes list))) (sym next) c.loop-next.invariant) first second (c.comes_before.ensures.0 c.if-not-comes_before.false))
