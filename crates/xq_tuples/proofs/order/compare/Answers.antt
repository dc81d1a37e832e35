use Rattle.std.proofs.Common.{sym, ◌∙◌}
use Rattle.xq_tuples.specs.private.Ranks.{keys_at}
use Rattle.xq_tuples.proofs.Comparing.{compared_at, ordering_then-ne, ordering_then-eq}
use Rattle.xq_tuples.proofs.order.compare.Goals as goal

pub returns-then-is_ne : goal.returns-then-is_ne
returns-then-is_ne c =
    let empty = c.loop-index.invariant.empty in
    let columns = c.args.columns.now in
    let at = compared_at c.args.specs.now (keys_at c.args.first columns) (keys_at c.args.second columns) c.loop-index.index _ _ _ c.loop-index-test.true (c.key_of_tuple-first_key.ensures empty) (c.key_of_tuple-second_key.ensures empty) c.compare_keys-ordering.ensures in
    sym (ordering_then-ne c.compare_keys-ordering.result _ (sym c.is_ne.ensures ∙ c.if-is_ne.true)) ∙ sym at ∙ c.loop-index.invariant.rest

pub loop-index-preserved : goal.loop-index-preserved
loop-index-preserved c =
    let empty = c.loop-index.invariant.empty in
    let columns = c.args.columns.now in
    let at = compared_at c.args.specs.now (keys_at c.args.first columns) (keys_at c.args.second columns) c.loop-index.index _ _ _ c.loop-index-test.true (c.key_of_tuple-first_key.ensures empty) (c.key_of_tuple-second_key.ensures empty) c.compare_keys-ordering.ensures in
    record {
      rest = sym (ordering_then-eq c.compare_keys-ordering.result _ (sym c.is_ne.ensures ∙ c.if-is_ne.false)) ∙ sym at ∙ c.loop-index.invariant.rest;
      empty = empty;
    }
