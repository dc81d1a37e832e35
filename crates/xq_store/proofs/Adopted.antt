-- What an adoption comes to, from what it does to the tables.
use Rattle.std.proofs.Common.{◌≡◌, ◌≢◌, ◌⊎◌, inl, inr, [], Option, Some, None, IfSome, IsTrue, false, sym, ap, subst}
use Rattle.std.specs.FinMap.{empty}
use Rattle.sqlite_trees.specs.declared.store.Store.{Ghosts}
use Rattle.sqlite.specs.Held.{Held, state}
use Rattle.sqlite.specs.State.{HasCleanDisk}
use Rattle.xq_store.specs.Adoption.{IsBlank, HasOldTables, HasStoreTables, HasTables}
use Rattle.xq_tables.specs.Documents.{IsReady, IsClean, IsOpen, IsUp, HoldsDocuments, StandsFor, documents, documents_of, IsStore}
use Rattle.xq_tables.specs.Labels.{shown_rows, IsStoreSchema}
use Rattle.xq_tables.specs.Tables.{no_schema, node_rows, IsOldSchema}
use Rattle.xq_tables.specs.declared.schemas.Tables.{Tables}
use Rattle.xq_tables.specs.declared.schemas.Tables.TheVariants.{Blank, Current, Old}
use Rattle.xq_store.specs.declared.shelves.Cache.{Cache}
use Rattle.xq_store.specs.private.Adopted.{IsAdopted, IsNoStore}
use Rattle.xq_store.specs.private.Keeps.{AreOf, IsKeeping, Keeps}
use Rattle.xq_tables.specs.Editions.{AreTables}
use Rattle.xq_tables.proofs.Maps.{no_documents}

module _ {S : Type 0} (g : Ghosts S) (conn new : Held S) where
  -- which tables there were
  pub known : (tables : Tables) → AreTables tables (state g conn).now.schema → IsBlank g conn ⊎ HasTables g conn
  unfolding IsBlank HasTables
  known Blank are = inl are
  known Old are = inr (inr are)
  known Current are = inr (inl are)

  module _ (ends : HasCleanDisk (state g new) → IsTrue (state g new).is_open) where
    pub both_open : (IsReady (state g new) → IsTrue (state g conn).is_open) → IsClean g new → IsOpen g new × IsOpen g conn
    unfolding IsClean IsOpen
    both_open opens clean = (ends clean, opens (clean, ends clean))

    module _ (did : IsReady (state g new) → IsAdopted (state g conn).now (state g new).now) where
      pub made_empty : IsClean g new → IsBlank g conn → StandsFor g new empty
      unfolding IsClean IsBlank StandsFor
      made_empty clean blank opened =
          let made = (did (clean, opened)).made blank in
          (made.0, no_documents (shown_rows (state g new).now) made.1)

      pub found_same : IsClean g new → HasStoreTables g conn → (state g new).now ≡ (state g conn).now
      unfolding IsClean HasStoreTables
      found_same clean has = ((did (clean, ends clean)).found has).0

      pub old_emptied : IsClean g new → HasOldTables g conn → node_rows (state g new).now ≡ []
      unfolding IsClean HasOldTables
      old_emptied clean has = ((did (clean, ends clean)).carried has).emptied

      pub found_whole : IsClean g new → HasTables g conn → HoldsDocuments g conn × StandsFor g new (documents g conn)
      unfolding IsClean HasTables HoldsDocuments documents StandsFor
      found_whole clean (inl has) =
          let found = (did (clean, ends clean)).found has in
          (inl found.1, λ opened. (subst IsStore (sym found.0) found.1, ap documents_of found.0))
      found_whole clean (inr has) =
          let carried = (did (clean, ends clean)).carried has in
          (inr carried.was, λ opened. (carried.is, carried.same))

      -- and what is kept of it
      module _ (tables : Tables) (are : AreTables tables (state g conn).now.schema) where
        holds : IsReady (state g new) → IsStore (state g new).now
        holds ready = go tables are
          where
            go : (tables : Tables) → AreTables tables (state g conn).now.schema → IsStore (state g new).now
            go Blank blank = ((did ready).made blank).0
            go Old old = ((did ready).carried old).is
            go Current has = (let found = (did ready).found has in subst IsStore (sym found.0) found.1)

        pub keeping_adopted : new.in_transaction ≡ false → (shelf : Option Cache) → IfSome shelf (λ s. IsReady (state g new) → AreOf (state g new).now s.addresses.value s.fronts.items) → IsKeeping g new shelf
        keeping_adopted mode shelf of = record { outside = mode; holds = holds; keeps = go shelf of }
          where
            go : (shelf : Option Cache) → IfSome shelf (λ s. IsReady (state g new) → AreOf (state g new).now s.addresses.value s.fronts.items) → Keeps g new shelf
            go None of = tt
            go (Some s) of = of

  pub told_none : {P : Type 0} → (IsReady (state g new) → P → IsNoStore (state g conn).now) → IsUp g new → P → ¬ IsBlank g conn × ¬ HoldsDocuments g conn
  unfolding IsUp IsBlank HoldsDocuments
  told_none told up none = let no = told up none in (no.some, λ holds. elim holds [ inl store ↦ no.none store | inr old ↦ no.old old ])

  pub kept_up : (IsReady (state g new) → (state g new).now ≡ (state g conn).now) → IsUp g new → (state g new).now ≡ (state g conn).now
  unfolding IsUp
  kept_up kept up = kept up

-- its tables are others
pub neither : {S : Type 0} (g : Ghosts S) (conn : Held S) → (state g conn).now.schema ≢ no_schema → ¬ IsOldSchema (state g conn).now.schema → ¬ IsStoreSchema (state g conn).now.schema → ¬ IsBlank g conn × ¬ HoldsDocuments g conn
unfolding IsBlank HoldsDocuments
neither g conn some old other = (some, λ holds. elim holds [ inl store ↦ other store.sound.schema | inr it ↦ old it.schema ])
