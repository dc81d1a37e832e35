use Rattle.std.proofs.Common.{Vec, Global}
use Rattle.std.proofs.lemmas.Result.{IfOk-weaker}
use Rattle.sqlite_value.specs.Order.{Row}
use Rattle.sqlite.specs.Held.{state}
use Rattle.xq_tables.specs.private.Statements.{IsFirstNumber, Seeks}
use Rattle.xq_tables.proofs.LabelTexts.{number_text}
use Rattle.xq_tables.proofs.Numbers.{query_kept, seeks}
use Rattle.xq_tables.proofs.Silent.{number_reads, silent}
use Rattle.xq_tables.proofs.labels.find_number.Goals as goal

pub returns-in_err-rows-clause-inside : goal.returns-in_err-rows-clause-inside
returns-in_err-rows-clause-inside g c =
    let old = state g.S.Store c.args.transaction.now.conn.now in
    let new = state g.S.Store c.query_all.new.self.conn.now in
    record {
      same_reference = c.query_all.ensures.same_reference;
      clean = c.query_all.ensures.survives.clean;
      kept = λ clean. query_kept old new number_text _ (silent c.args.transaction.now.conn.now.schema number_text number_reads) (λ (v : Vec Row Global). v.items) c.query_all.result (c.query_all.ensures.ok clean) (c.query_all.ensures.err clean);
    }

pub returns-clause-inside : goal.returns-clause-inside
returns-clause-inside g c =
    let old = state g.S.Store c.args.transaction.now.conn.now in
    let new = state g.S.Store c.query_all.new.self.conn.now in
    record {
      same_reference = c.query_all.ensures.same_reference;
      clean = c.query_all.ensures.survives.clean;
      kept = λ clean. query_kept old new number_text _ (silent c.args.transaction.now.conn.now.schema number_text number_reads) (λ (v : Vec Row Global). v.items) c.query_all.result (c.query_all.ensures.ok clean) (c.query_all.ensures.err clean);
    }

pub returns-clause-found : goal.returns-clause-found
returns-clause-found g c clean =
    let old = state g.S.Store c.args.transaction.now.conn.now in
    let new = state g.S.Store c.query_all.new.self.conn.now in
    let shown = rw c.params-to_sql.ensures at (c.in_ok-rows.ensures.ok clean) in
    IfOk-weaker c.first_number.result (λ found. IsFirstNumber found c.in_ok-rows.rows.items) (λ found. Seeks c.args.name.now found old new) (λ found first. seeks old new c.args.name.now c.in_ok-rows.rows.items found shown first)
    (rw c.deref.ensures.value at c.first_number.ensures)
