use Rattle.xq_tables.proofs.Deletes.{part_inside}
use Rattle.sqlite.specs.Held.{state}
use Rattle.xq_tables.proofs.statements.delete_part.Goals as goal

pub returns-clause-dropped : goal.returns-clause-dropped
returns-clause-dropped g c clean =
    let ran = rw (c.params-to_sql.ensures, c.params-to_sql-2.ensures, c.params-to_sql-3.ensures) at (c.execute.ensures.runs clean) in
    part_inside (state g.S.Store c.args.transaction.now.conn.now) (state g.S.Store c.execute.new.self.conn.now) c.args.address.now c.args.low c.args.high _ c.execute.result (λ out. (c.execute.ensures.ended out).0) ran
