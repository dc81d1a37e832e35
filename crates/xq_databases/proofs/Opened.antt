-- What an opening and a closing come to, from what the engine says of the files.
use Rattle.std.proofs.Common.{◌≡◌, ◌⊎◌, inl, inr, List, [], ◌∙◌, Option, Some, None, IfSome, IsTrue, true, refl, sym, ap, subst}
use Rattle.std.specs.FinMap.{empty}
use Rattle.sqlite_disk.specs.declared.Disk.{Ghosts}
use Rattle.sqlite_disk.specs.declared.Files.{Files}
use Rattle.sqlite_trees.specs.Props.{Trees-set}
use Rattle.std.proofs.Math.Logic.{∥∥₁_elim}
use Rattle.sqlite.specs.declared.FileStore.{FileStore}
use Rattle.sqlite.specs.Closing.{HoldsAlone, IsCopied}
use Rattle.sqlite.specs.Effect.{Database, IsDatabase}
use Rattle.sqlite.specs.Files.{HoldsDatabase, file_state, over_files}
use Rattle.sqlite.specs.Held.{Held}
use Rattle.sqlite.specs.Recovery.{Image}
use Rattle.sqlite.specs.State.{HasCleanDisk}
use Rattle.xq_store.specs.Adoption.{HasTables, IsBlank}
use Rattle.xq_tables.specs.Documents.{HoldsDocuments, IsClean, Map, StandsFor, documents}
use Rattle.xq_databases.specs.Opened.{HasMap, IsFoundIn, IsLeftIn, LeavesMap, OpensAloneTo, OpensTo, StandsForFiles}
use Rattle.xq_databases.proofs.Found.{same_map}

module _ {D : Type 0} {g : Ghosts D} (conn : Held (FileStore D g)) where
  -- the store of a database that was adopted
  pub stands_for : (store : Held (FileStore D g)) → IsBlank over_files conn ⊎ HasTables over_files conn → (IsBlank over_files conn → StandsFor over_files store empty)
      → (HasTables over_files conn → HoldsDocuments over_files conn × StandsFor over_files store (documents over_files conn)) → (image : Image) → IsFoundIn true image (file_state conn).now
      → StandsForFiles image store
  unfolding IsBlank HoldsDocuments documents
  stands_for store (inl blank) made found image finds = record { map = empty; held = record { opened = (file_state conn).now; found = finds; map = inl (blank, refl) }; stands = made blank }
  stands_for store (inr has) made found image finds = (
      let it = found has in
      record { map = documents over_files conn; held = record { opened = (file_state conn).now; found = finds; map = inr (it.0, refl) }; stands = it.1 })

  -- and of files that were opened
  pub opened : (image : Image) (r : Option (Held (FileStore D g))) → IfSome r (λ store. IsBlank over_files conn ⊎ HasTables over_files conn)
      → IfSome r (λ store. IsClean over_files store → IsBlank over_files conn → StandsFor over_files store empty)
      → IfSome r (λ store. IsClean over_files store → HasTables over_files conn → HoldsDocuments over_files conn × StandsFor over_files store (documents over_files conn))
      → IfSome r (λ store. IsClean over_files store → IsClean over_files conn) → (HasCleanDisk (file_state conn) → IsFoundIn true image (file_state conn).now) → IfSome r (λ store. IsClean over_files store → StandsForFiles image store)
  unfolding IsClean
  opened image None known made found was finds = tt
  opened image (Some store) known made found was finds = λ clean. stands_for store known (made clean) (found clean) image (finds (was clean))

-- An image that holds the database of a store, with its log and without, opens to each map that the store stood for.
module _ {D : Type 0} {g : Ghosts D} (store : Held (FileStore D g)) (sound : IsDatabase (file_state store).now) (up : IsTrue (file_state store).is_open)
    (settled : (file_state store).committed.trees ≡ (file_state store).now.trees) (m : Map) (stands : StandsFor over_files store m) where
  opens_to : (image : Image) → ∥ HoldsDatabase image (file_state store).committed.trees ∥₁ → OpensTo m image
  unfolding StandsFor
  opens_to image holds db found there has =
      let same : db.trees ≡ (file_state store).now.trees = ∥∥₁_elim holds (Trees-set _ _) (there.holds _) ∙ settled in
      let is = stands up in
      same_map db (file_state store).now same there.sound sound is.0 found has ∙ is.1

  alone : (image : Image) → HoldsAlone image (file_state store).committed.trees → OpensAloneTo m image
  alone image holds = (opens_to image holds.both, opens_to (record image { log = [] }) holds.alone)

  pub leaves_map : (files : Files D) → IsCopied store files → LeavesMap g files m
  leaves_map files copied = record { seen = alone _ copied.seen; left = λ image may. alone image (copied.left image may) }

-- what a close leaves, where the connection is that of the store
pub left_in : {D : Type 0} {g : Ghosts D} (conn store : Held (FileStore D g)) → conn ≡ store → IsDatabase (file_state conn).now → (files : Files D) → IsCopied conn files
    → (IsTrue (file_state conn).is_open → (file_state conn).now ≡ (file_state conn).committed) → IsLeftIn store files
left_in {D} {g} conn store is sound files copied settled =
    let same : (file_state conn).committed.trees ≡ (file_state conn).now.trees = ap (λ (d : Database). d.trees) (sym (settled copied.was_open)) in
    subst (λ h. IsLeftIn h files) is (record { copied = copied; settled = same; map = λ m stands. leaves_map conn sound copied.was_open same m stands files copied })
