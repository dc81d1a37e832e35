use Rattle.std.proofs.Common.{map, length, sym, ap, ◌∙◌, arith}
use Rattle.std.proofs.lemmas.List.{length-map, get_or-map}
use Rattle.std.proofs.lemmas.Result.{err_from_is_err_and}
use Rattle.std.proofs.lemmas.Iterator.Adapters.{YieldsList-from_vec}
use Rattle.std.proofs.lemmas.Iterator.Consumers.{YieldsList-turn}
use Rattle.std.proofs.lemmas.List.Folds.{list_all_at}
use Rattle.xq_trees.specs.Tuples.{is_key}
use Rattle.xq_tuples.specs.Keys.{values_in}
use Rattle.xq_tuples.proofs.keys.key_column.Goals as goal

pub returns-in_err-only_key-clause-refused : goal.returns-in_err-only_key-clause-refused
returns-in_err-only_key-clause-refused c =
    let xs = c.args.column.items in
    let x = c.in-Some.values in
    let turn = YieldsList-turn (YieldsList-from_vec xs (cc) (cc)) c.loop-values.yielded c.loop-values.values-iterator c.loop-values.yielded_by c.next.result c.next.new.self x c.in-Some.is c.next.ensures.steps in
    let i = length c.loop-values.yielded in
    let p = err_from_is_err_and c.from_residual-in_err-only_key.result c.from_residual-in_err-only_key.ensures.1 in
    let refused = c.in_err-only_key.ensures.refused in
    let here = get_or-map values_in xs i x (values_in x) turn.0 ∙ ap values_in (sym turn.1) in
    rw (p.1, p.2) (refused.0, list_all_at is_key (map values_in xs) i (values_in x) (omega (arith, turn.0, length-map xs values_in)) (ap is_key here ∙ refused.1))
