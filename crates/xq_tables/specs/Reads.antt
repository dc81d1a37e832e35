-- What is read of the tables of a store: rows of an address, and the addresses.
use Rattle.std.specs.Prelude.{◌≡◌, ◌+◌, ◌&&◌, ℕ, pos, Bool, List, [], ◌∷◌, map, filter, Option, Some, None, IsPermutation, IsSorted, nat_lt, nat_le}
use Rattle.std.specs.Ordering.{is_ge, is_le}
use Rattle.sqlite_value.specs.Order.{Row, column, value_cmp}
use Rattle.sqlite_value.specs.declared.value.Value.TheVariants.{Int}
use Rattle.sqlite.specs.Effect.{Database}
use Rattle.xq_trees.specs.Tree.{Tree}
use Rattle.xq_trees.specs.Rows.{Encodes}
use Rattle.xq_trees.specs.declared.NodeRow.{NodeRow}
use Rattle.xq_tables.specs.Documents.{is_at, is_first, node_columns, by_first, IsStore}
use Rattle.xq_tables.specs.Nodes.{number_in}
use Rattle.xq_tables.specs.Labels.{shown_rows, IsStoreSchema}

-- what a SELECT gives that is ordered by its first column
pub record IsPicked (passes : Row → Bool) (shows : Row → Row) (table rows : List Row) : Type 0 where
  pub same : IsPermutation (map shows (filter passes table)) rows
  pub sorted : IsSorted by_first rows

-- the row's number lies from low to high
abbrev pub is_within : ℕ → ℕ → Row → Bool
is_within low high row = is_ge (value_cmp (column row 2) (Int (pos low)))
    && is_le (value_cmp (column row 2) (Int (pos high)))

-- the rows of an address with numbers from low to high
abbrev pub IsRange : List ℕ → ℕ → ℕ → Database → List Row → Type 0
IsRange address low high db rows = IsStoreSchema db.schema
    → IsPicked (λ r. is_at address r && is_within low high r) node_columns (shown_rows db) rows

-- the row's number is below that of a node, and at least that with its size
abbrev pub is_above : ℕ → Row → Bool
is_above node row = nat_lt (number_in (column row 2)) node
    && nat_le node (number_in (column row 2) + number_in (column row 3))

-- the rows of an address that are those of nodes above a node
abbrev pub AreAbove : List ℕ → ℕ → Database → List Row → Type 0
AreAbove address node db rows = IsStore db
    → IsPicked (λ r. is_at address r && is_above node r) node_columns (shown_rows db) rows

-- the addresses, one for each first row
abbrev pub AreAddresses : Database → List Row → Type 0
AreAddresses db rows = IsStore db
    → IsPicked is_first (λ r. column r 1 ∷ []) (shown_rows db) rows

-- what nodes that were read stand for: nothing where there are none, or the tree whose rows they
-- are
abbrev pub Finds : List NodeRow → Option Tree → Type 0
Finds nodes None = nodes ≡ []
Finds nodes (Some t) = Encodes nodes t
