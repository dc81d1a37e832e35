use Rattle.std.proofs.Common.{[], ◌∷◌, pos, Vec, Global}
use Rattle.sqlite_value.specs.declared.value.Value.TheVariants.{Int, Text}
use Rattle.sqlite_value.specs.Order.{Row}
use Rattle.sqlite.specs.Held.{state}
use Rattle.sqlite.specs.State.{Shown}
use Rattle.xq_tables.specs.private.Statements.{ReadsPart}
use Rattle.xq_tables.proofs.AdoptReads.{each_ok}
use Rattle.xq_tables.proofs.LabelTexts.{part_rows_text}
use Rattle.xq_tables.proofs.Numbers.{query_kept, reads_part}
use Rattle.xq_tables.proofs.Silent.{part_rows_reads, silent}
use Rattle.xq_tables.proofs.statements.read_part.Goals as goal

pub returns-clause-inside : goal.returns-clause-inside
returns-clause-inside g c =
    let old = state g.S.Store c.args.transaction.now.conn.now in
    let new = state g.S.Store c.query_all.new.self.conn.now in
    record {
      same_reference = c.query_all.ensures.same_reference;
      clean = c.query_all.ensures.survives.clean;
      kept = λ clean. query_kept old new part_rows_text _ (silent c.args.transaction.now.conn.now.schema part_rows_text part_rows_reads) (λ (v : Vec Row Global). v.items) c.query_all.result (c.query_all.ensures.ok clean) (c.query_all.ensures.err clean);
    }

pub returns-clause-rows : goal.returns-clause-rows
returns-clause-rows g c clean =
    let old = state g.S.Store c.args.transaction.now.conn.now in
    let new = state g.S.Store c.query_all.new.self.conn.now in
    let params = Text c.args.address.now ∷ Int (pos c.args.low) ∷ Int (pos c.args.high) ∷ [] in
    each_ok (λ (v : Vec Row Global). Shown part_rows_text params old new v.items) (λ (v : Vec Row Global). ReadsPart c.args.address.now c.args.low c.args.high old new v.items) c.query_all.result (λ v h. reads_part old new c.args.address.now c.args.low c.args.high v.items h)
    (rw (c.params-to_sql.ensures, c.params-to_sql-2.ensures, c.params-to_sql-3.ensures) at (c.query_all.ensures.ok clean))
