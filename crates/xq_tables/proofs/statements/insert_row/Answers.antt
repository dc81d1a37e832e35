use Rattle.std.proofs.Common.{rules}
use Rattle.xq_tables.proofs.Together.{node_inside}
use Rattle.sqlite.specs.Held.{state}
use Rattle.xq_sources.specs.Lent.{placed_lent}
use Rattle.xq_tables.proofs.statements.insert_row.Goals as goal

pub returns-clause-added : goal.returns-clause-added
returns-clause-added g c clean =
    let ran = rw (c.params-to_sql.ensures, c.params-to_sql-2.ensures, c.params-to_sql-3.ensures, c.params-to_sql-4.ensures, c.params-to_sql-5.ensures, c.params-to_sql-6.ensures, c.params-to_sql-7.ensures, c.number_of-kind.ensures, c.value-text.ensures)
    at (c.execute.ensures.runs clean) in
    node_inside (state g.S.Store c.args.transaction.now.conn.now) (state g.S.Store c.execute.new.self.conn.now) c.args.address.now (placed_lent c.args.row.now) c.args.label _ c.execute.result (λ out. (c.execute.ensures.ended out).0) ran

pub returns-clause-inside : goal.returns-clause-inside
returns-clause-inside g c =
    record {
      same_reference = c.execute.ensures.same_reference;
      clean = c.execute.ensures.survives.clean;
      kept = search rules;
    }
