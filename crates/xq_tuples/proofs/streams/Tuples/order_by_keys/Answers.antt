use Rattle.std.proofs.Common.{◌≡◌, Ok, map, length, sym, subst, ap, ◌∙◌}
use Rattle.std.specs.List.{All}
use Rattle.std.specs.Prelude.{IfOk, IfErr}
use Rattle.xq_atoms.specs.Answers.{IsRefusal}
use Rattle.xq_trees.specs.Tuples.{ordered}
use Rattle.xq_tuples.specs.Keys.{row_of, by_specification, by_tuple}
use Rattle.xq_tuples.specs.Orders.{rule_of}
use Rattle.xq_tuples.proofs.Columns.{all_as_long, by_tuple-long}
use Rattle.xq_tuples.proofs.streams.Tuples.order_by_keys.Goals as goal

pub order_by_columns-requires : goal.order_by_columns-requires
order_by_columns-requires c =
    let m = c.len-count.result in
    let n = length c.args.specs.now in
    subst (λ columns. All (λ column. length column ≡ length c.args.self) columns) (sym c.in_ok-columns.ensures.columns) (all_as_long n (by_tuple m n (row_of c.args.keys)) (length c.args.self) (by_tuple-long m n (row_of c.args.keys) ∙ c.len-count.ensures))

pub returns-clause-stream : goal.returns-clause-stream
returns-clause-stream c =
    subst (λ columns. IfOk c.order_by_columns.result (λ stream. ordered (map rule_of c.args.specs.now) c.args.self columns ≡ Ok stream)) (c.in_ok-columns.ensures.columns ∙ ap (λ m. by_specification (length c.args.specs.now) (by_tuple m (length c.args.specs.now) (row_of c.args.keys))) c.len-count.ensures) c.order_by_columns.ensures.stream

pub returns-clause-refused : goal.returns-clause-refused
returns-clause-refused c =
    subst (λ columns. IfErr c.order_by_columns.result (IsRefusal (ordered (map rule_of c.args.specs.now) c.args.self columns))) (c.in_ok-columns.ensures.columns ∙ ap (λ m. by_specification (length c.args.specs.now) (by_tuple m (length c.args.specs.now) (row_of c.args.keys))) c.len-count.ensures) c.order_by_columns.ensures.refused
