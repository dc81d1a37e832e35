-- What it is to carry documents over from the tables of edition 1 to those of edition 2.
use Rattle.std.specs.Prelude.{◌≡◌, ℕ, pos, List, [], ◌∷◌, map, IsPermutation}
use Rattle.std.specs.List.{AllByRecursion}
use Rattle.sqlite_value.specs.Order.{column}
use Rattle.sqlite_value.specs.declared.value.Value.TheVariants.{Int}
use Rattle.sqlite_rules.specs.Lists.{Has}
use Rattle.sqlite.specs.Effect.{Database}
use Rattle.xq_sources.specs.Addresses.{Rise}
use Rattle.xq_tables.specs.Documents.{documents_of, rows_at, AreApart, HasAddress, HaveInts, IsOldStore, IsSound, IsStore}
use Rattle.xq_tables.specs.Labels.{shown_rows}
use Rattle.xq_tables.specs.Tables.{layout_rows, node_rows, IsOldSchema}

-- The tables of edition 1 held documents, those of edition 2 hold the same now, and in the table
-- `node` no row is left.
pub record HasCarried (old new : Database) : Type 0 where
  pub was : IsOldStore old
  pub is : IsStore new
  pub same : documents_of new ≡ documents_of old
  pub emptied : node_rows new ≡ []

-- The rows of these addresses stand in the tables of edition 2 and no others do, and in the table
-- `node` no row is left.
pub record HasMoved (addresses : List (List ℕ)) (old new : Database) : Type 0 where
  pub sound : IsSound new
  pub layout : map (λ r. column r 1) (layout_rows new) ≡ Int (pos 2) ∷ []
  pub emptied : node_rows new ≡ []
  pub named : AllByRecursion HasAddress (shown_rows new)
  pub own : (b : List ℕ) → Has addresses b
      → IsPermutation (rows_at b (node_rows old)) (rows_at b (shown_rows new))
  pub others : (b : List ℕ) → ¬ Has addresses b → rows_at b (shown_rows new) ≡ []

-- So it is where the tables were those of edition 1 and each row had a number of its own.
abbrev pub Moves : List (List ℕ) → Database → Database → Type 0
Moves addresses old new = IsOldSchema old.schema → AreApart (node_rows old)
    → HaveInts (node_rows old) → AreApart (layout_rows old) → HaveInts (layout_rows old)
    → Rise addresses → HasMoved addresses old new
