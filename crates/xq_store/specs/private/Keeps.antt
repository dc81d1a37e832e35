-- What calls keep: of the connection, and of its documents from one view to the next.
use Rattle.std.specs.Prelude.{◌≡◌, ⊤, ℕ, false, List, map, Option, Some, None, IsTrue}
use Rattle.std.specs.FinMap.{keys}
use Rattle.sqlite_trees.specs.declared.store.Store.{Ghosts}
use Rattle.sqlite.specs.Effect.{Database}
use Rattle.sqlite.specs.Held.{Held, state}
use Rattle.sqlite.specs.State.{HasCleanDisk}
use Rattle.xq_store.specs.declared.shelves.CachedDocument.{CachedDocument}
use Rattle.xq_store.specs.declared.shelves.Cache.{Cache}
use Rattle.xq_tables.specs.Documents.{IsReady, IsStore, documents_of, tree_at}
use Rattle.xq_tables.specs.Labels.{shown_rows, IsStoreSchema}
use Rattle.xq_store.specs.private.Shelves.{AreFronts}

-- these are the addresses of the documents in the tables, and of each document the first rows
pub record AreOf (db : Database) (addresses : List (List ℕ)) (fronts : List CachedDocument) : Type 0 where
  pub listed : addresses ≡ keys (documents_of db)
  pub rows : AreFronts (map (tree_at (shown_rows db)) addresses) fronts

-- A call left the database as it was, where its tables are those that a store makes.
pub record LeavesAlone {S : Type 0} (g : Ghosts S) (old new : Held S) : Type 0 where
  pub was_clean : HasCleanDisk (state g new) → HasCleanDisk (state g old)
  pub was_open : IsReady (state g new) → IsTrue (state g old).is_open
  pub same : IsReady (state g new) → IsStoreSchema (state g old).now.schema
      → (state g new).now ≡ (state g old).now

-- a shelf is that of the documents, where the tables hold documents
pub record IsKept {S : Type 0} (g : Ghosts S) (conn : Held S) (shelf : Cache) : Type 0 where
  pub holds : IsReady (state g conn) → IsStore (state g conn).now
      → AreOf (state g conn).now shelf.addresses.value shelf.fronts.items

-- what is kept is that of the tables
abbrev pub KeepsShelf : {S : Type 0} → Ghosts S → Held S → Cache → Type 0
KeepsShelf g conn shelf = IsReady (state g conn)
    → AreOf (state g conn).now shelf.addresses.value shelf.fronts.items

abbrev pub Keeps : {S : Type 0} → Ghosts S → Held S → Option Cache → Type 0
Keeps g conn None = ⊤
Keeps g conn (Some shelf) = KeepsShelf g conn shelf

-- what is true of each store: its connection, whose tables hold documents, and what is kept
pub record IsKeeping {S : Type 0} (g : Ghosts S) (conn : Held S) (shelf : Option Cache)
    : Type 0 where
  pub outside : conn.in_transaction ≡ false
  pub holds : IsReady (state g conn) → IsStore (state g conn).now
  pub keeps : Keeps g conn shelf
