use Rattle.std.proofs.Common.{map, ap, ◌∙◌, arith}
use Rattle.std.proofs.lemmas.List.{map_push}
use Rattle.xq_tuples.specs.Keys.{values_in, row_of}
use Rattle.xq_tuples.specs.private.Columns.{left_of}
use Rattle.xq_tuples.proofs.Columns.{filled_more, filled_all, dropped_more}
use Rattle.xq_tuples.proofs.keys.add_keys.Goals as goal

pub loop-column-preserved : goal.loop-column-preserved
loop-column-preserved c =
    let loop = c.loop-column in
    let longer = ap (map values_in) c.in_ok-push.ensures.items ∙ map_push values_in _ c.next_key.result in
    record {
      columns = filled_more row_of loop.columns loop.column-index _ c.push.new.self (values_in c.next_key.result) (left_of loop.keys) (left_of c.next_key.new.keys) _ (omega arith)
          longer c.next_key.ensures.key c.next_key.ensures.later loop.invariant.columns;
      later = c.next_key.ensures.later ∙ dropped_more loop.column-index (left_of loop.keys) (left_of c.args.keys.now) loop.invariant.later;
    }

pub returns-clause-columns : goal.returns-clause-columns
returns-clause-columns c = filled_all row_of c.loop-column.columns c.loop-column.column-index (left_of c.loop-column.keys) _ (omega arith) c.loop-column.invariant.columns
