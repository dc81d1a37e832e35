-- What an adoption makes of a database, and what it refuses.
use Rattle.std.specs.Prelude.{◌≡◌, ◌≢◌}
use Rattle.sqlite.specs.Effect.{Database}
use Rattle.xq_tables.specs.Documents.{IsOldStore, IsStore}
use Rattle.xq_tables.specs.Moves.{HasCarried}
use Rattle.xq_tables.specs.Writes.{IsEmptyStore}
use Rattle.xq_tables.specs.Labels.{IsStoreSchema}
use Rattle.xq_tables.specs.Tables.{no_schema, IsOldSchema}

-- An adoption that succeeds makes an empty store where no table was there, takes the tables of
-- edition 2 as they stand where they hold documents, and carries over those of edition 1 that do.
pub record IsAdopted (old new : Database) : Type 0 where
  pub made : old.schema ≡ no_schema → IsEmptyStore new
  pub found : IsStoreSchema old.schema → (new ≡ old) × IsStore old
  pub carried : IsOldSchema old.schema → HasCarried old new

-- there are tables, and they hold no documents, or are others
pub record IsNoStore (db : Database) : Type 0 where
  pub some : db.schema ≢ no_schema
  pub none : ¬ IsStore db
  pub old : ¬ IsOldStore db
