use Rattle.std.proofs.Common.{arith, rules}
use Rattle.sqlite.specs.Held.{state}
use Rattle.sqlite.specs.State.{HasCleanDisk}
use Rattle.xq_atoms.specs.Address.{IsAddress}
use Rattle.xq_tables.proofs.Carrying.{carries_one}
use Rattle.xq_tables.proofs.carries.carry_document.Goals as goal

pub returns-clause-carried : goal.returns-clause-carried
returns-clause-carried g c clean =
    let old = state g.S.Store c.args.transaction.now.conn.now in
    let mid = state g.S.Store c.read_old_rows.new.transaction.conn.now in
    let new = state g.S.Store c.insert_rows.new.transaction.conn.now in
    let early : HasCleanDisk mid = omega (arith, c.insert_rows.ensures.inside.clean, clean) in
    let good : IsAddress c.args.address.now = search rules in
    let are = rw c.deref.ensures.value at c.in_ok-nodes.ensures in
    carries_one c.args.address.now c.in_ok-read.read.items _ c.new-names.result.entries _ old mid new good (c.in_ok-read.ensures.rows early) are c.new-names.ensures.empty (rw (c.new-rows.ensures, c.deref-2.ensures.value) at (c.in_ok-insert_rows.ensures.added clean))
