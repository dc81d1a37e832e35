-- What a database is that may be adopted as a store.
use Rattle.std.specs.Prelude.{◌≡◌, ◌⊎◌}
use Rattle.sqlite_trees.specs.declared.store.Store.{Ghosts}
use Rattle.sqlite.specs.Held.{Held, state}
use Rattle.xq_tables.specs.Labels.{IsStoreSchema}
use Rattle.xq_tables.specs.Tables.{no_schema, IsOldSchema}

-- A connection with a database to adopt: `g` are the ghosts of what it keeps its database in.
module _ {S : Type 0} (g : Ghosts S) (conn : Held S) where
  -- no table was made in it
  unfoldable pub IsBlank : Type 0
  IsBlank = (state g conn).now.schema ≡ no_schema

  -- its tables are those of a store, whatever rows they have
  unfoldable pub HasStoreTables : Type 0
  HasStoreTables = IsStoreSchema (state g conn).now.schema

  -- its tables are the two of edition 1
  unfoldable pub HasOldTables : Type 0
  HasOldTables = IsOldSchema (state g conn).now.schema

  -- they are those of either
  unfoldable pub HasTables : Type 0
  HasTables = IsStoreSchema (state g conn).now.schema ⊎ IsOldSchema (state g conn).now.schema
