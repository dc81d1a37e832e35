-- What a call makes of the tables of a store: none, rows that go, rows in place of others.
use Rattle.std.proofs.Common.{suc}
use Rattle.std.specs.Prelude.{◌≡◌, ◌≢◌, ℕ, pos, Bool, List, [], ◌∷◌, map, filter, length, take, IsPermutation, nat_lt}
use Rattle.std.specs.Ordering.{is_ge}
use Rattle.std.specs.List.{AllByRecursion, enumerate_from}
use Rattle.sqlite_value.specs.Order.{Row, column, value_cmp}
use Rattle.sqlite_value.specs.declared.value.Value.TheVariants.{Int}
use Rattle.sqlite_keyed.specs.Lists.{delete_where}
use Rattle.sqlite.specs.Effect.{Database}
use Rattle.xq_atoms.specs.Address.{IsAddress}
use Rattle.xq_trees.specs.Rows.{Row as Node}
use Rattle.xq_tables.specs.Documents.{is_at, rows_at, HasAddress, IsSound, IsStore}
use Rattle.xq_tables.specs.Nodes.{cells}
use Rattle.xq_tables.specs.Labels.{label_rows, shown_rows}
use Rattle.xq_tables.specs.Tables.{layout_rows}

-- it holds the tables and no row of a document
abbrev pub IsEmptyStore : Database → Type 0
IsEmptyStore db = IsStore db × (shown_rows db ≡ [])

-- the rows that pass a test are gone, and nothing else is
pub record HasDropped (gone : Row → Bool) (old new : Database) : Type 0 where
  pub sound : IsSound new
  pub layout : layout_rows new ≡ layout_rows old
  pub labels : label_rows new ≡ label_rows old
  pub rows : shown_rows new ≡ delete_where gone (shown_rows old)

-- what a DELETE of so many rows makes of the tables of a store
abbrev pub Deletes : (Row → Bool) → Database → Database → ℕ → Type 0
Deletes gone old new count = IsSound old
    → HasDropped gone old new × (count ≡ length (filter gone (shown_rows old)))

-- the rows of an address are these alone, and nothing else is changed
pub record HasReplaced (address : List ℕ) (rows : List Row) (old new : Database) : Type 0 where
  pub sound : IsSound new
  pub layout : layout_rows new ≡ layout_rows old
  pub named : IsAddress address → AllByRecursion HasAddress (shown_rows new)
  pub own : IsPermutation rows (rows_at address (shown_rows new))
  pub others : (b : List ℕ) → b ≢ address
      → rows_at b (shown_rows new) ≡ rows_at b (shown_rows old)

-- a row without its rowid and its address has a number from low on
abbrev pub is_from : ℕ → Row → Bool
is_from low row = is_ge (value_cmp (column row 0) (Int (pos low)))

-- the rows of an address with numbers from low on are those of nodes, without a gap
abbrev pub RunsFrom : List ℕ → ℕ → List Node → Database → Type 0
RunsFrom address low nodes db = IsPermutation
    (filter (is_from low) (rows_at address (shown_rows db))) (map cells (enumerate_from low nodes))

-- these nodes are all of an address under so many numbers from low on, where the rows from low on
-- are numbered without a gap
abbrev pub AreThere : List ℕ → ℕ → ℕ → List (ℕ × Node) → Database → Type 0
AreThere address low count there db = (nodes : List Node) × RunsFrom address low nodes db
    × (map cells there ≡ map cells (enumerate_from low (take count nodes)))

-- the places of rows are the numbers from n on
abbrev pub AreFrom : ℕ → List (ℕ × Node) → Type 0
AreFrom n [] = Unit {0}
AreFrom n (row ∷ rows) = (row.0 ≡ n) × AreFrom (suc n) rows

-- a whole put into a store, which answers whether the address had rows before
abbrev pub Puts : List ℕ → List Row → Database → Database → Bool → Type 0
Puts address rows old new replaced = IsStore old → HasReplaced address rows old new
    × (replaced ≡ nat_lt 0 (length (filter (is_at address) (shown_rows old))))

-- one that looks at the rows that are kept of the document, which are its first
abbrev pub PutsOver : List ℕ → List (ℕ × Node) → List Row → Database → Database → Bool
    → Type 0
PutsOver address kept rows old new replaced = AreThere address 0 (length kept) kept old
    → Puts address rows old new replaced
