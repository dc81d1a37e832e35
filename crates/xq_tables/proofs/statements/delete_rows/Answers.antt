use Rattle.xq_tables.proofs.Deletes.{dropped_inside}
use Rattle.sqlite.specs.Held.{state}
use Rattle.xq_tables.proofs.statements.delete_rows.Goals as goal

pub returns-clause-dropped : goal.returns-clause-dropped
returns-clause-dropped g c clean =
    let ran = rw c.params-to_sql.ensures at (c.execute.ensures.runs clean) in
    dropped_inside (state g.S.Store c.args.transaction.now.conn.now) (state g.S.Store c.execute.new.self.conn.now) c.args.address.now _ c.execute.result (λ out. (c.execute.ensures.ended out).0) ran
