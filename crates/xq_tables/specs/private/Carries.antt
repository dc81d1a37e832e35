-- What it is to carry documents over from the tables of edition 1.
use Rattle.std.specs.Prelude.{◌≡◌, ◌⊎◌, ℕ, true, List, [], map, IsPermutation}
use Rattle.std.specs.List.{AllByRecursion}
use Rattle.sqlite_value.specs.Order.{Row}
use Rattle.sqlite_rules.specs.Lists.{Has}
use Rattle.sqlite.specs.Effect.{Database}
use Rattle.sqlite.specs.Schema.{Schema}
use Rattle.sqlite.specs.State.{State}
use Rattle.xq_atoms.specs.Address.{IsAddress}
use Rattle.xq_sources.specs.Addresses.{Rise}
use Rattle.xq_tables.specs.Documents.{rows_at, AreApart, HasAddress, HaveInts, IsSound}
use Rattle.xq_tables.specs.Labels.{carried_schema, label_rows, node2_rows, shown_rows}
use Rattle.xq_tables.specs.Tables.{layout_rows, node_rows, old_schema, turned_old_schema}
use Rattle.xq_tables.specs.private.Columns.{node_of}
use Rattle.xq_tables.specs.private.Statements.{HasAdded}

-- # The steps

-- the tables of edition 2 stand after those of edition 1
abbrev pub IsCarriedSchema : Schema → Type 0
IsCarriedSchema schema = (schema ≡ carried_schema old_schema)
    ⊎ (schema ≡ carried_schema turned_old_schema)

-- the rows of an address were read from the table `node`
pub record ReadsOld (address : List ℕ) (rows : List Row) (old new : State) : Type 0 where
  pub mode : new.in_transaction ≡ old.in_transaction
  pub same : new.now ≡ old.now
  pub are : IsCarriedSchema old.now.schema
      → IsPermutation (rows_at address (node_rows old.now)) (map node_of rows)

-- and stand under it in the tables of edition 2
pub record CarriesOne (address : List ℕ) (old new : State) : Type 0 where
  pub mode : old.in_transaction ≡ true → new.in_transaction ≡ true
  pub good : IsAddress address
  pub did : IsCarriedSchema old.now.schema → IsSound old.now → (rows : List Row)
      × IsPermutation (rows_at address (node_rows old.now)) rows
      × HasAdded address rows old.now new.now

-- the rows of these addresses stand in tables that were empty
pub record HasCarriedAll (addresses : List (List ℕ)) (old new : Database) : Type 0 where
  pub sound : IsSound new
  pub schema : new.schema ≡ old.schema
  pub layout : layout_rows new ≡ layout_rows old
  pub beside : node_rows new ≡ node_rows old
  pub named : AllByRecursion HasAddress (shown_rows new)
  pub own : (b : List ℕ) → Has addresses b
      → IsPermutation (rows_at b (node_rows old)) (rows_at b (shown_rows new))
  pub others : (b : List ℕ) → ¬ Has addresses b → rows_at b (shown_rows new) ≡ []

-- so do those of some of the addresses, inside a transaction
pub record CarriesSome (all some : List (List ℕ)) (old new : State) : Type 0 where
  pub mode : old.in_transaction ≡ true → new.in_transaction ≡ true
  pub did : IsCarriedSchema old.now.schema → IsSound old.now → shown_rows old.now ≡ []
      → Rise all → HasCarriedAll some old.now new.now

abbrev pub CarriesAll : List (List ℕ) → State → State → Type 0
CarriesAll addresses = CarriesSome addresses addresses

-- the table `node` is empty, and nothing else is changed
pub record HasEmptied (old new : Database) : Type 0 where
  pub schema : new.schema ≡ old.schema
  pub layout : layout_rows new ≡ layout_rows old
  pub labels : label_rows new ≡ label_rows old
  pub nodes : node2_rows new ≡ node2_rows old
  pub emptied : node_rows new ≡ []

abbrev pub Empties : Database → Database → Type 0
Empties old new = IsCarriedSchema old.schema → AreApart (node_rows old) → HaveInts (node_rows old)
    → HasEmptied old new

-- the edition is gone, and nothing else is changed
pub record HasNoEdition (old new : Database) : Type 0 where
  pub schema : new.schema ≡ old.schema
  pub layout : layout_rows new ≡ []
  pub labels : label_rows new ≡ label_rows old
  pub nodes : node2_rows new ≡ node2_rows old
  pub beside : node_rows new ≡ node_rows old

abbrev pub ForgetsEdition : Database → Database → Type 0
ForgetsEdition old new = IsCarriedSchema old.schema → AreApart (layout_rows old)
    → HaveInts (layout_rows old) → HasNoEdition old new
