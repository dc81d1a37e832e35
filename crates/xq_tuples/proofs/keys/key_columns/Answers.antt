use Rattle.std.proofs.Common.{◌≡◌, map, length, false, sym, ap, ◌∙◌, arith}
use Rattle.std.specs.List.{list_all}
use Rattle.std.proofs.lemmas.List.{length-map, get_or-map}
use Rattle.std.proofs.lemmas.Result.{err_from_is_err_and}
use Rattle.std.proofs.lemmas.Iterator.Adapters.{YieldsList-from_vec}
use Rattle.std.proofs.lemmas.Iterator.Consumers.{YieldsList-turn}
use Rattle.std.proofs.lemmas.List.Folds.{list_all_at}
use Rattle.xq_trees.specs.Tuples.{is_key}
use Rattle.xq_tuples.specs.Keys.{row_of}
use Rattle.xq_tuples.proofs.Refusals.{Refuses-weaker}
use Rattle.xq_tuples.proofs.keys.key_columns.Goals as goal

pub returns-in_err-key_column-clause-refused : goal.returns-in_err-key_column-clause-refused
returns-in_err-key_column-clause-refused c =
    let xs = c.args.columns.items in
    let x = c.in-Some.column in
    let turn = YieldsList-turn (YieldsList-from_vec xs (cc) (cc)) c.loop-column.yielded c.loop-column.column-iterator c.loop-column.yielded_by c.next.result c.next.new.self x c.in-Some.is c.next.ensures.steps in
    let i = length c.loop-column.yielded in
    let p = err_from_is_err_and c.from_residual-in_err-key_column.result c.from_residual-in_err-key_column.ensures.1 in
    let here = get_or-map row_of xs i x (row_of x) turn.0 ∙ ap row_of (sym turn.1) in
    let fails = λ (e : list_all is_key (row_of x) ≡ false). list_all_at (λ column. list_all is_key column) (map row_of xs) i (row_of x) (omega (arith, turn.0, length-map xs row_of)) (ap (list_all is_key) here ∙ e) in
    rw (p.1, p.2) (Refuses-weaker _ c.in_err-key_column.ensures.refused fails)
