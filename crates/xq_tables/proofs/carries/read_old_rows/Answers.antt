use Rattle.std.proofs.Common.{[], ◌∷◌, Vec, Global}
use Rattle.sqlite_value.specs.declared.value.Value.TheVariants.{Text}
use Rattle.sqlite_value.specs.Order.{Row}
use Rattle.sqlite.specs.Held.{state}
use Rattle.sqlite.specs.State.{Shown}
use Rattle.xq_tables.specs.private.Carries.{ReadsOld}
use Rattle.xq_tables.proofs.AdoptReads.{each_ok}
use Rattle.xq_tables.proofs.Moving.{old_rows_reads, old_rows_text, reads_old}
use Rattle.xq_tables.proofs.Numbers.{query_kept}
use Rattle.xq_tables.proofs.Silent.{silent}
use Rattle.xq_tables.proofs.carries.read_old_rows.Goals as goal

pub returns-clause-inside : goal.returns-clause-inside
returns-clause-inside g c =
    let old = state g.S.Store c.args.transaction.now.conn.now in
    let new = state g.S.Store c.query_all.new.self.conn.now in
    record {
      same_reference = c.query_all.ensures.same_reference;
      clean = c.query_all.ensures.survives.clean;
      kept = λ clean. query_kept old new old_rows_text _ (silent c.args.transaction.now.conn.now.schema old_rows_text old_rows_reads) (λ (v : Vec Row Global). v.items) c.query_all.result (c.query_all.ensures.ok clean) (c.query_all.ensures.err clean);
    }

pub returns-clause-rows : goal.returns-clause-rows
returns-clause-rows g c clean =
    let old = state g.S.Store c.args.transaction.now.conn.now in
    let new = state g.S.Store c.query_all.new.self.conn.now in
    each_ok (λ (v : Vec Row Global). Shown old_rows_text (Text c.args.address.now ∷ []) old new v.items) (λ (v : Vec Row Global). ReadsOld c.args.address.now v.items old new) c.query_all.result (λ v h. reads_old old new c.args.address.now v.items h) (rw c.params-to_sql.ensures at (c.query_all.ensures.ok clean))
