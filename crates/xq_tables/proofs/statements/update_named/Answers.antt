use Rattle.std.proofs.Common.{arith}
use Rattle.sqlite.specs.Held.{state}
use Rattle.sqlite.specs.State.{HasCleanDisk}
use Rattle.xq_sources.specs.Lent.{placed_lent}
use Rattle.xq_tables.proofs.Updates.{updates_numbered}
use Rattle.xq_tables.proofs.statements.update_named.Goals as goal

pub returns-clause-updated : goal.returns-clause-updated
returns-clause-updated g c clean =
    let old = state g.S.Store c.args.transaction.now.conn.now in
    let named = state g.S.Store c.number_in_hand.new.transaction.conn.now in
    let new = state g.S.Store c.update_row.new.transaction.conn.now in
    let before : HasCleanDisk named = omega (arith, c.update_row.ensures.inside.clean, clean) in
    updates_numbered c.args.address.now (placed_lent c.args.row.now) c.in_ok-label.label c.args.names.now.entries c.number_in_hand.new.names.entries old named new (rw c.name.ensures at (c.in_ok-label.ensures.numbered before)) (c.in_ok-_count.ensures.updated clean)
