use Rattle.std.proofs.Common.{Some, ap}
use Rattle.sqlite.specs.Held.{state}
use Rattle.xq_sources.specs.Lent.{placed_lent}
use Rattle.xq_tables.specs.Nodes.{cells}
use Rattle.xq_tables.proofs.Renewals.{stays_row, updated_row}
use Rattle.xq_tables.proofs.replacements.renew_row.Goals as goal

pub returns-then-is_same-clause-renewed : goal.returns-then-is_same-clause-renewed
returns-then-is_same-clause-renewed g c clean =
    let here = state g.S.Store c.args.transaction.now.conn.now in
    stays_row c.args.address.now (placed_lent c.args.row.now) _ c.args.names.now.entries here.now (ap (λ n. Some (cells n)) (c.is_same.ensures.0 c.if-is_same.true))

pub returns-clause-renewed : goal.returns-clause-renewed
returns-clause-renewed g c clean =
    let old = state g.S.Store c.args.transaction.now.conn.now in
    let new = state g.S.Store c.update_named.new.transaction.conn.now in
    updated_row c.args.address.now (placed_lent c.args.row.now) (cells (placed_lent c.args.there.now)) c.args.names.now.entries c.update_named.new.names.entries old.now new.now c.update_named.result (c.update_named.ensures.updated clean)
