use Rattle.std.proofs.Common.{◌≡◌, map, drop, length, ap, sym, ◌∙◌, arith}
use Rattle.std.proofs.lemmas.List.{with_items_is, length-map}
use Rattle.xq_tuples.specs.Keys.{values_in, row_of, by_tuple}
use Rattle.xq_tuples.specs.private.Columns.{filled, left_of}
use Rattle.xq_tuples.proofs.Columns.{none_filled, by_tuple-push, after_tuples-more, by_specification-wide}
use Rattle.xq_tuples.proofs.keys.dealt.Goals as goal

pub loop-init : goal.loop-init
loop-init c = record {
  columns = c.in_ok-columns.ensures.columns ∙ none_filled 0 c.args.count;
  left = ap (map values_in) c.into_iter-left.ensures.rest;
}

pub loop-preserved : goal.loop-preserved
loop-preserved c =
    let n = c.args.count in
    let m = c.loop.counter in
    let keys = row_of c.args.keys in
    let columns = c.loop.columns in
    let after = c.add_keys.new.columns in
    let kept : length after ≡ columns.len = omega (arith, c.add_keys.auto.columns, ap length c.deref_mut.ensures.value, columns.ok.0) in
    let wide = by_specification-wide n (by_tuple m n keys) in
    let many : length c.deref_mut.result.now ≡ n = ap length c.deref_mut.ensures.value ∙ sym (length-map columns.items row_of) ∙ ap length c.loop.invariant.columns ∙ wide in
    record {
      columns = ap (map row_of) (with_items_is columns after kept)
          ∙ c.in_ok-add_keys.ensures.columns
          ∙ ap (λ items. filled (map row_of items) (left_of c.loop.left)) c.deref_mut.ensures.value
          ∙ (λ t. filled (c.loop.invariant.columns t) (c.loop.invariant.left t))
          ∙ by_tuple-push m n keys;
      left = c.in_ok-add_keys.ensures.later ∙ (λ t. drop (many t) (c.loop.invariant.left t)) ∙ after_tuples-more m n keys;
    }
