-- The map from addresses to documents that the tables of a database stand for.
use Rattle.std.specs.Prelude.{◌≡◌, ◌⊎◌, ℕ, pos, Bool, false, List, [], ◌∷◌, map, filter, IsTrue, IsPermutation}
use Rattle.std.specs.declared.cmp.Ordering.{Ordering}
use Rattle.std.specs.Ordering.{is_eq, on, nat_cmp}
use Rattle.std.specs.List.{AllByRecursion}
use Rattle.std.specs.Cmp.Lexicographic.{slice_cmp}
use Rattle.std.specs.FinMap.{FinMap, from_entries}
use Rattle.sqlite_value.specs.Order.{Row, column, value_cmp}
use Rattle.sqlite_value.specs.declared.value.Value.TheVariants.{Int, Text}
use Rattle.sqlite_trees.specs.Tree.{IsAscending, rowid}
use Rattle.sqlite_trees.specs.View.{is_int}
use Rattle.sqlite_trees.specs.declared.store.Store.{Ghosts}
use Rattle.sqlite_keyed.specs.Lists.{sort_by}
use Rattle.sqlite.specs.Effect.{Database}
use Rattle.sqlite.specs.State.{State, HasCleanDisk}
use Rattle.sqlite.specs.Held.{Held, state}
use Rattle.xq_trees.specs.Tree.{Tree, IsDocument}
use Rattle.xq_trees.specs.Rows.{placed_rows, tree_of}
use Rattle.xq_atoms.specs.Address.{IsAddress}
use Rattle.xq_tables.specs.Nodes.{cells, node_in, bytes_in}
use Rattle.xq_tables.specs.Labels.{label_rows, node2_rows, shown_rows, HasLabel, IsNumbered, IsNumberOf, IsStoreSchema}
use Rattle.xq_tables.specs.Tables.{layout_rows, node_rows, IsOldSchema}

-- The documents by their addresses, in the order of the addresses' bytes.
abbrev pub Map : Type 0
Map = FinMap (slice_cmp nat_cmp) Tree

-- A row of a node is a rowid, and then its columns: 1 address, 2 pre, 3 size, 4 level, 5 kind, 6
-- name, 7 value.

-- the row is one of the address
abbrev pub is_at : List ℕ → Row → Bool
is_at address row = is_eq (value_cmp (column row 1) (Text address))

-- the row is the first of a document
abbrev pub is_first : Row → Bool
is_first row = is_eq (value_cmp (column row 2) (Int (pos 0)))

-- a row without its rowid and its address
abbrev pub node_columns : Row → Row
node_columns r = column r 2 ∷ column r 3 ∷ column r 4 ∷ column r 5 ∷ column r 6 ∷ column r 7 ∷ []

-- the rows of an address, as they lie in the table
abbrev pub rows_at : List ℕ → List Row → List Row
rows_at address table = map node_columns (filter (is_at address) table)

-- rows in the order of their first columns
abbrev pub by_first : Row → Row → Ordering
by_first = on (λ r. column r 0) value_cmp

-- the tree whose rows those of an address are
abbrev pub tree_at : List Row → List ℕ → Tree
tree_at table address = tree_of (map node_in (sort_by by_first (rows_at address table)))

-- an address is in the map where it has a row with number 0
abbrev pub addresses_in : List Row → List (List ℕ)
addresses_in table = map (λ r. bytes_in (column r 1)) (filter is_first table)

-- the map that rows of nodes stand for
unfoldable pub documents_in : List Row → Map
documents_in table = from_entries
    (map (λ address. (address, tree_at table address)) (addresses_in table))

-- the map that a database stands for
abbrev pub documents_of : Database → Map
documents_of db = documents_in (shown_rows db)

-- the rows are those of one document, in some order
pub record IsIntact (rows : List Row) : Type 0 where
  pub tree : Tree
  pub is_document : IsDocument tree
  pub same : IsPermutation rows (map cells (placed_rows tree))

-- no rowid comes twice
abbrev pub AreApart : List Row → Type 0
AreApart = IsAscending (λ a b. is_eq (value_cmp (rowid a) (rowid b)) ≡ false)

-- each rowid is an integer
abbrev pub HaveInts : List Row → Type 0
HaveInts = AllByRecursion (λ r. IsTrue (is_int (rowid r)))

-- the row's address is a good one
abbrev pub HasAddress : Row → Type 0
HasAddress r = (address : List ℕ) × IsAddress address × (column r 1 ≡ Text address)

-- labels have numbers within bounds, each another one, and 0 is that of the empty name
pub record AreLabels (labels : List Row) : Type 0 where
  pub apart : AreApart labels
  pub numbered : AllByRecursion IsNumbered labels
  pub zero : IsNumberOf labels 0 []

-- the database holds the tables of edition 2 as a store makes them, each node has a label, and the
-- rowids of the nodes are integers, each another one
pub record IsSound (db : Database) : Type 0 where
  pub schema : IsStoreSchema db.schema
  pub labels : AreLabels (label_rows db)
  pub held : AllByRecursion (HasLabel (label_rows db)) (node2_rows db)
  pub apart : AreApart (node2_rows db)
  pub ints : HaveInts (node2_rows db)

-- The tables are sound: `layout` has its one row, 2, and of the rows that they stand for those of
-- each address are those of one document, or there are none.
pub record IsStore (db : Database) : Type 0 where
  pub sound : IsSound db
  pub layout : map (λ r. column r 1) (layout_rows db) ≡ Int (pos 2) ∷ []
  pub named : AllByRecursion HasAddress (shown_rows db)
  pub whole : (address : List ℕ) → (rows_at address (shown_rows db) ≡ [])
      ⊎ IsIntact (rows_at address (shown_rows db))

-- The database holds the tables of edition 1, whichever was made first: `layout` with its one row,
-- 1, and `node`, in which the rows of each address are those of one document, or there are none.
pub record IsOldStore (db : Database) : Type 0 where
  pub schema : IsOldSchema db.schema
  pub layout : map (λ r. column r 1) (layout_rows db) ≡ Int (pos 1) ∷ []
  -- the rowids are integers, each another one
  pub apart : AreApart (node_rows db)
  pub ints : HaveInts (node_rows db)
  pub named : AllByRecursion HasAddress (shown_rows db)
  pub whole : (address : List ℕ) → (rows_at address (shown_rows db) ≡ [])
      ⊎ IsIntact (rows_at address (shown_rows db))

-- the connection is open, and its disk has returned what was written
abbrev pub IsReady : State → Type 0
IsReady s = HasCleanDisk s × IsTrue s.is_open

-- A store, as a contract sees it: its connection. `g` are the ghosts of what it keeps its
-- database in.
module _ {S : Type 0} (g : Ghosts S) (store : Held S) where
  -- Its disk has returned what was written; so it had at each call before. A database in memory
  -- always has.
  unfoldable pub IsClean : Type 0
  IsClean = HasCleanDisk (state g store)

  -- It is open; so it was at each call before.
  unfoldable pub IsOpen : Type 0
  IsOpen = IsTrue (state g store).is_open

  -- both
  unfoldable pub IsUp : Type 0
  IsUp = IsReady (state g store)

  -- Its tables hold documents: those of edition 2, as a store's do, or of edition 1.
  unfoldable pub HoldsDocuments : Type 0
  HoldsDocuments = IsStore (state g store).now ⊎ IsOldStore (state g store).now

  -- The map that its tables stand for.
  unfoldable pub documents : Map
  documents = documents_of (state g store).now

  -- It stands for this map: while it is open, its tables hold these documents. What has shut tells
  -- nothing of its tables any more, and stands for the map that it stood for when it shut.
  unfoldable pub StandsFor : Map → Type 0
  StandsFor m = IsTrue (state g store).is_open → IsStore (state g store).now
      × (documents_of (state g store).now ≡ m)
