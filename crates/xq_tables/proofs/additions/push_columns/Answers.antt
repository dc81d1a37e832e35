use Rattle.std.proofs.Common.{◌∙◌, ap, pos}
use Rattle.sqlite_value.specs.declared.value.Value.TheVariants.{Int, Text}
use Rattle.xq_sources.specs.Lent.{placed_lent}
use Rattle.xq_tables.proofs.Numberings.{columns_pushed}
use Rattle.xq_tables.proofs.additions.push_columns.Goals as goal

pub returns : goal.returns
returns c =
    columns_pushed c.args.values.now.items c.extend_from_slice.new.self.items _ _ _ _ _ _ (placed_lent c.args.row.now) c.args.number c.in_ok-extend_from_slice.ensures.items c.params-to_sql.ensures c.params-to_sql-2.ensures c.params-to_sql-3.ensures
    (c.params-to_sql-4.ensures ∙ ap (λ k. Int (pos k)) c.number_of-kind.ensures) c.params-to_sql-5.ensures (c.params-to_sql-6.ensures ∙ ap (λ t. Text t) c.value-text.ensures)
