use Rattle.std.proofs.Common.{◌≡◌, ◌≤◌, ◌-◌, length}
use Rattle.sqlite.specs.State.{HasCleanDisk, KeepsCommit}
use Rattle.sqlite.specs.Held.{state}
use Rattle.sqlite_trees.specs.View.{doubt}
use Rattle.xq_tables.proofs.Renewals.{IsRenewed}
use Rattle.xq_tables.proofs.replacements.renew_each.Given as goal

abbrev pub invariant-loop-at : goal.invariant-loop-at
invariant-loop-at g l =
    let old = state g.S.Store l.fn.transaction.conn.now in
    let now = state g.S.Store l.transaction.conn.now in
    record {
      same_reference : l.transaction.conn.ghost_name ≡ l.fn.transaction.conn.ghost_name;
      clean : doubt old.is_clean ≤ doubt now.is_clean;
      kept : HasCleanDisk now → KeepsCommit old now;
      within : l.at ≤ length l.rows;
      so_far : HasCleanDisk now → IsRenewed l.address l.rows_there l.rows l.at l.fn.names.entries l.names.entries old.now now.now;
    }

abbrev pub decreases-loop-at : goal.decreases-loop-at
decreases-loop-at g l = length l.rows - l.at
