use Rattle.std.proofs.Common.{◌≡◌, ◌≤◌, take, length, ◌-◌}
use Rattle.sqlite.specs.State.{HasCleanDisk, KeepsCommit}
use Rattle.sqlite.specs.Held.{state}
use Rattle.sqlite_trees.specs.View.{doubt}
use Rattle.xq_tables.specs.private.Numbered.{AddsRows}
use Rattle.xq_tables.proofs.additions.insert_numbered.Given as goal

abbrev pub invariant-loop-at : goal.invariant-loop-at
invariant-loop-at g l =
    let old = state g.S.Store l.fn.transaction.conn.now in
    let now = state g.S.Store l.transaction.conn.now in
    record {
      same_reference : l.transaction.conn.ghost_name ≡ l.fn.transaction.conn.ghost_name;
      clean : doubt old.is_clean ≤ doubt now.is_clean;
      kept : HasCleanDisk now → KeepsCommit old now;
      within : l.at ≤ length l.rows;
      added : HasCleanDisk now → AddsRows l.address (take l.at l.rows) (take l.at l.numbers) old now;
    }

abbrev pub decreases-loop-at : goal.decreases-loop-at
decreases-loop-at g l = length l.rows - l.at
