use Rattle.std.proofs.Common.{◌≡◌, Ok, map, length, sym, subst, ◌∙◌}
use Rattle.std.specs.List.{All}
use Rattle.std.specs.Prelude.{IfOk, IfErr}
use Rattle.std.proofs.lemmas.List.{length-map}
use Rattle.xq_atoms.specs.Answers.{IsRefusal}
use Rattle.xq_trees.specs.Tuples.{ordered}
use Rattle.xq_tuples.specs.Keys.{row_of, rows_in}
use Rattle.xq_tuples.specs.Orders.{rule_of}
use Rattle.xq_tuples.proofs.Columns.{all_as_long}
use Rattle.xq_tuples.proofs.streams.Tuples.order_by_rows.Goals as goal

pub order_by_columns-requires : goal.order_by_columns-requires
order_by_columns-requires c =
    let long = length-map c.args.keys.items row_of ∙ c.requires in
    subst (λ columns. All (λ column. length column ≡ length c.args.self) columns) (sym c.in_ok-columns.ensures.columns) (all_as_long (length c.args.specs.now) (rows_in c.args.keys) (length c.args.self) long)

pub returns-clause-stream : goal.returns-clause-stream
returns-clause-stream c =
    subst (λ columns. IfOk c.order_by_columns.result (λ stream. ordered (map rule_of c.args.specs.now) c.args.self columns ≡ Ok stream)) c.in_ok-columns.ensures.columns c.order_by_columns.ensures.stream

pub returns-clause-refused : goal.returns-clause-refused
returns-clause-refused c =
    subst (λ columns. IfErr c.order_by_columns.result (IsRefusal (ordered (map rule_of c.args.specs.now) c.args.self columns))) c.in_ok-columns.ensures.columns c.order_by_columns.ensures.refused
