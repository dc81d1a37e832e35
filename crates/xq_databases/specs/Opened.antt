-- What an opening finds in two files, and what a close leaves in them.
use Rattle.std.specs.Prelude.{◌≡◌, ◌⊎◌, Bool, true, []}
use Rattle.std.specs.FinMap.{empty}
use Rattle.sqlite_disk.specs.declared.Disk.{Ghosts}
use Rattle.sqlite_disk.specs.declared.Files.{Files}
use Rattle.sqlite_pool.specs.Opening.{IsBlankFile}
use Rattle.sqlite_pool.specs.Stored.{used_size}
use Rattle.sqlite_trees.specs.Tree.{Trees}
use Rattle.sqlite_wal.specs.Files.{outcomes}
use Rattle.sqlite.specs.declared.FileStore.{FileStore}
use Rattle.sqlite.specs.Closing.{IsCopied}
use Rattle.sqlite.specs.Effect.{Database, IsDatabase}
use Rattle.sqlite.specs.Files.{AreFoundIn, HoldsDatabase, IsEmpty, file_state, image_of, over_files}
use Rattle.sqlite.specs.Held.{Held}
use Rattle.sqlite.specs.Recovery.{Image}
use Rattle.xq_tables.specs.Documents.{IsOldStore, IsStore, Map, StandsFor, documents_of}
use Rattle.xq_tables.specs.Tables.{no_schema}

-- No database has been made in the files yet: the database file is empty, or it is what a stop left
-- of a first page of 1,024 bytes, beside a log that tells so.
abbrev pub IsUnmade : Bool → Image → Type 0
IsUnmade has_sums = IsBlankFile (used_size 1024 has_sums)

-- What an opening finds in files that hold this: the database that they hold, or one without a row
-- where none has been made yet.
pub record IsFoundIn (has_sums : Bool) (image : Image) (db : Database) : Type 0 where
  pub holds : (trees : Trees) → HoldsDatabase image trees → db.trees ≡ trees
  pub reads : AreFoundIn image db.trees ⊎ (IsUnmade has_sums image × IsEmpty db.trees)
  pub sound : IsDatabase db

-- the map of a database that is opened: that of its tables, and an empty one where it has none
abbrev pub HasMap : Database → Map → Type 0
HasMap db m = ((db.schema ≡ no_schema) × (m ≡ empty))
    ⊎ ((IsStore db ⊎ IsOldStore db) × (m ≡ documents_of db))

-- An opening of files that hold this finds the map.
pub record FilesHold (image : Image) (m : Map) : Type 0 where
  pub opened : Database
  pub found : IsFoundIn true image opened
  pub map : HasMap opened m

-- whoever opens files that hold this finds the map, and no other
abbrev pub OpensTo : Map → Image → Type 0
OpensTo m image = (db : Database) (found : Map) → IsFoundIn true image db → HasMap db found
    → found ≡ m

-- the same, also where their log is gone
abbrev pub OpensAloneTo : Map → Image → Type 0
OpensAloneTo m image = OpensTo m image × OpensTo m (record image { log = [] })

-- the files as they read now, and as a crash leaves them, open to the map
pub record LeavesMap {D : Type 0} (g : Ghosts D) (files : Files D) (m : Map) : Type 0 where
  pub seen : OpensAloneTo m (image_of g files)
  pub left : (image : Image) → outcomes g files.log files.db image → OpensAloneTo m image

module _ {D : Type 0} {g : Ghosts D} where
  -- the store stands for the map of the database that the files held
  pub record StandsForFiles (image : Image) (store : Held (FileStore D g)) : Type 0 where
    pub map : Map
    pub held : FilesHold image map
    pub stands : StandsFor over_files store map

  -- The database file holds what the store's tables held, with its log and without it, as it reads
  -- now and after a crash; and whatever map the store stood for, the files open to it.
  pub record IsLeftIn (store : Held (FileStore D g)) (files : Files D) : Type 0 where
    pub copied : IsCopied store files
    pub settled : (file_state store).committed.trees ≡ (file_state store).now.trees
    pub map : (m : Map) → StandsFor over_files store m → LeavesMap g files m
