-- What a call inside a transaction keeps of the connection.
use Rattle.std.specs.Prelude.{◌≡◌, ◌≤◌}
use Rattle.sqlite_trees.specs.declared.store.Store.{Ghosts}
use Rattle.sqlite.specs.Held.{state}
use Rattle.sqlite.specs.State.{HasCleanDisk, KeepsCommit}
use Rattle.sqlite.specs.declared.transaction.Transaction.{Transaction}
use Rattle.sqlite_trees.specs.View.{doubt}

-- A call inside a transaction leaves it over the connection that it borrowed, the disk was clean
-- where it is so afterwards, and nothing was committed.
pub record StaysInside {S : Type 0} (g : Ghosts S) (old new : Transaction S) : Type 0 where
  pub same_reference : new.conn.ghost_name ≡ old.conn.ghost_name
  pub clean : doubt (state g old.conn.now).is_clean ≤ doubt (state g new.conn.now).is_clean
  pub kept : HasCleanDisk (state g new.conn.now)
      → KeepsCommit (state g old.conn.now) (state g new.conn.now)
