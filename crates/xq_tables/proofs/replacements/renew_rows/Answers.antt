use Rattle.std.proofs.Common.{take, subst₂, arith}
use Rattle.sqlite.specs.State.{HasCleanDisk}
use Rattle.sqlite.specs.Held.{state}
use Rattle.xq_tables.specs.private.Statements.{RenewsRows}
use Rattle.xq_tables.proofs.Renewals.{rest_added}
use Rattle.xq_tables.proofs.replacements.renew_rows.Goals as goal

pub returns-clause-renewed : goal.returns-clause-renewed
returns-clause-renewed g c clean =
    let old = state g.S.Store c.args.transaction.now.conn.now in
    let mid = state g.S.Store c.renew_each.new.transaction.conn.now in
    let new = state g.S.Store c.insert_rows.new.transaction.conn.now in
    let early : HasCleanDisk mid = omega (arith, c.insert_rows.ensures.inside.clean, clean) in
    let many = c.min-many.result in
    let renews : RenewsRows c.args.address.now (take many c.args.rows_there.now) (take many c.args.rows.now) c.args.names.now.entries c.renew_each.new.names.entries old.now mid.now =
    subst₂ (λ there rows. RenewsRows c.args.address.now there rows c.args.names.now.entries c.renew_each.new.names.entries old.now mid.now) c.first-first.ensures c.first.ensures (c.in_ok-renew_each.ensures.renewed early) in
    rest_added c.args.address.now many c.args.rows_there.now c.args.rows.now c.args.names.now.entries c.renew_each.new.names.entries c.insert_rows.new.names.entries old.now mid new c.insert_rows.result (omega (arith, c.min-many.ensures, c.len-end.ensures, c.len.ensures)) (omega (arith, c.min-many.ensures, c.len-end.ensures, c.len.ensures))
    (λ fits. omega (arith, fits, c.min-many.ensures, c.len-end.ensures, c.len.ensures)) renews
    (rw (c.between.ensures, c.len-end.ensures) at (c.insert_rows.ensures.added clean))
