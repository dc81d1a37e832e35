use Rattle.std.proofs.Common.{◌≡◌, ◌≤◌, take, length}
use Rattle.sqlite.specs.State.{HasCleanDisk, KeepsCommit}
use Rattle.sqlite.specs.Held.{state}
use Rattle.sqlite_trees.specs.View.{doubt}
use Rattle.xq_tables.specs.private.Numbered.{NumbersRows}
use Rattle.xq_tables.proofs.additions.number_rows.Given as goal

abbrev pub invariant-loop-at : goal.invariant-loop-at
invariant-loop-at g l =
    let old = state g.S.Store l.fn.transaction.conn.now in
    let now = state g.S.Store l.transaction.conn.now in
    record {
      same_reference : l.transaction.conn.ghost_name ≡ l.fn.transaction.conn.ghost_name;
      clean : doubt old.is_clean ≤ doubt now.is_clean;
      kept : HasCleanDisk now → KeepsCommit old now;
      count : length l.numbers.items ≡ l.at;
      numbered : HasCleanDisk now → NumbersRows (take l.at l.rows) l.numbers.items l.fn.names.entries l.names.entries old now;
    }
