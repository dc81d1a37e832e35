use Rattle.std.proofs.Common.{◌≡◌, map, length, ap, sym, ◌∙◌, arith}
use Rattle.std.proofs.lemmas.List.{map_push, with_items_is}
use Rattle.xq_tuples.specs.Keys.{row_of, by_specification}
use Rattle.xq_tuples.specs.private.Columns.{filled}
use Rattle.xq_tuples.proofs.Columns.{none_filled, by_specification-push}
use Rattle.xq_tuples.proofs.keys.turned.Goals as goal

pub loop-row-init : goal.loop-row-init
loop-row-init c = c.in_ok-columns.ensures.columns ∙ none_filled 0 c.args.count

pub loop-row-preserved : goal.loop-row-preserved
loop-row-preserved c =
    let n = c.args.count in
    let row = c.in-Some.row in
    let columns = c.loop-row.columns in
    let after = c.add_row.new.columns in
    let kept : length after ≡ columns.len = omega (arith, c.add_row.auto.columns, ap length c.deref_mut.ensures.value, columns.ok.0) in
    ap (map row_of) (with_items_is columns after kept)
    ∙ c.in_ok-add_row.ensures.columns
    ∙ ap (λ items. filled (map row_of items) (row_of row)) c.deref_mut.ensures.value
    ∙ ap (λ lists. filled lists (row_of row)) c.loop-row.invariant
    ∙ by_specification-push n (map row_of c.loop-row.yielded) (row_of row)
    ∙ ap (by_specification n) (sym (map_push row_of c.loop-row.yielded row))
