use Rattle.std.proofs.Common.{arith}
use Rattle.sqlite.specs.State.{HasCleanDisk}
use Rattle.sqlite.specs.Held.{state}
use Rattle.xq_tables.proofs.Numberings.{rows_named}
use Rattle.xq_tables.proofs.additions.insert_rows.Goals as goal

pub returns-clause-added : goal.returns-clause-added
returns-clause-added g c clean =
    let old = state g.S.Store c.args.transaction.now.conn.now in
    let mid = state g.S.Store c.number_rows.new.transaction.conn.now in
    let new = state g.S.Store c.insert_numbered.new.transaction.conn.now in
    let early : HasCleanDisk mid = omega (arith, c.insert_numbered.ensures.inside.clean, clean) in
    rows_named c.args.address.now c.args.rows.now c.in_ok-numbers.numbers.items c.args.names.now.entries c.number_rows.new.names.entries old mid new c.insert_numbered.result (c.in_ok-numbers.ensures.numbered early)
    (rw c.deref.ensures.value at (c.insert_numbered.ensures.added clean))
