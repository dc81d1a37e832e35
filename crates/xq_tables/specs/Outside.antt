-- What a call outside of any transaction keeps of the connection.
use Rattle.std.specs.Prelude.{◌≡◌, ◌≤◌, false, IsTrue}
use Rattle.sqlite_trees.specs.declared.store.Store.{Ghosts}
use Rattle.sqlite.specs.Held.{Held, state}
use Rattle.sqlite_trees.specs.View.{doubt}
use Rattle.xq_tables.specs.Documents.{IsReady}

-- A call outside of any transaction leaves none under way. The disk was clean, and the database
-- open, where they are so afterwards.
pub record StaysOutside {S : Type 0} (g : Ghosts S) (old new : Held S) : Type 0 where
  pub mode : new.in_transaction ≡ false
  pub clean : doubt (state g old).is_clean ≤ doubt (state g new).is_clean
  pub was_open : IsReady (state g new) → IsTrue (state g old).is_open
