-- What is kept in memory of the documents of a store: their addresses, and of each the first rows.
use Rattle.std.specs.Prelude.{◌≡◌, ◌<◌, ◌≤◌, ◌+◌, ◌-◌, ◌⊎◌, ⊤, ℕ, List, [], ◌∷◌, length, take, drop, slice_get, Option, Some, None, Bool, IsTrue}
use Rattle.std.specs.FinMap.{get}
use Rattle.sqlite_trees.specs.declared.store.Store.{Ghosts}
use Rattle.xq_trees.specs.Tree.{Tree}
use Rattle.xq_trees.specs.Rows.{Row, placed_rows, rows as rows_of}
use Rattle.xq_store.specs.declared.shelves.CachedDocument.{CachedDocument}
use Rattle.xq_store.specs.declared.shelves.Cache.{Cache}
use Rattle.xq_sources.specs.Addresses.{IsGap}
use Rattle.xq_sources.specs.Names.{AreNames}
use Rattle.xq_sources.specs.Parents.{AreParents}
use Rattle.xq_sources.specs.Values.{AreValues}
use Rattle.std.specs.List.{enumerate_from, insert, remove, slice_set as set}
use Rattle.xq_sources.specs.Sources.{tree_at}
use Rattle.sqlite.specs.Held.{state}
use Rattle.xq_tables.specs.Documents.{Map, IsClean, IsReady}
use Rattle.xq_tables.specs.Labels.{IsStoreSchema}
use Rattle.xq_store.specs.Views.{Beginning, HeldDocuments, Viewed, IsView, trees_under}

-- these are the first rows of a tree
abbrev pub IsFront : Tree → List (ℕ × Row) → Type 0
IsFront t rows = rows ≡ take (length rows) (placed_rows t)

-- a place lies within the rows that are kept of a tree, or these are all
abbrev pub Reaches : Tree → ℕ → List (ℕ × Row) → Type 0
Reaches t place rows = (place < length rows) ⊎ (length (placed_rows t) ≤ length rows)

-- the rows that are kept, with their places
abbrev pub kept_rows : CachedDocument → List (ℕ × Row)
kept_rows front = enumerate_from 0 front.rows.rows

-- what is kept of a tree are its first rows, the places of the parents of some of these, all places
-- of elements by their names, of some names, and all places of attributes by their names and in the
-- order of their values, of some names
pub record IsFrontOf (t : Tree) (front : CachedDocument) : Type 0 where
  pub rows : IsFront t (kept_rows front)
  pub parents : AreParents (rows_of t) front.guide
  pub names : AreNames (placed_rows t) front.names
  pub values : AreValues (rows_of t) front.values

-- each is what is kept of its tree
abbrev pub AreFronts : List Tree → List CachedDocument → Type 0
AreFronts [] [] = ⊤
AreFronts [] (front ∷ fronts) = ⊥
AreFronts (t ∷ trees) [] = ⊥
AreFronts (t ∷ trees) (front ∷ fronts) = IsFrontOf t front × AreFronts trees fronts

-- the rows that are kept of the tree with this number
abbrev pub items_in : Option CachedDocument → List (ℕ × Row)
items_in None = []
items_in (Some front) = kept_rows front

abbrev pub front_at : List CachedDocument → ℕ → List (ℕ × Row)
front_at fronts tree = items_in (slice_get fronts tree)

-- the rows that are kept of the document of an address
abbrev pub AreKeptOf : Option Cache → List ℕ → List (ℕ × Row) → Type 0
AreKeptOf None address rows = rows ≡ []
AreKeptOf (Some shelf) address rows = (place : ℕ)
    × (((slice_get shelf.addresses.value place ≡ Some address)
    × (rows ≡ front_at shelf.fronts.items place))
    ⊎ (IsGap shelf.addresses.value place address × (rows ≡ [])))

-- those from low to high
abbrev pub run_of : List (ℕ × Row) → ℕ → ℕ → List (ℕ × Row)
run_of rows low high = take (high + 1 - low) (drop low rows)

-- there is a tree with this number, and its rows are kept up to a place, or all of them
pub record HasReached (trees : List Tree) (fronts : List CachedDocument) (tree place : ℕ) : Type 0 where
  pub tree_in : tree < length trees
  pub reaches : Reaches (tree_at trees tree) place (front_at fronts tree)

-- the trees are the documents of the addresses
pub record AreListed (m : Map) (addresses : List (List ℕ)) (trees : List Tree) : Type 0 where
  pub count : length addresses ≡ length trees
  pub found : (i : ℕ) (a : List ℕ) → slice_get addresses i ≡ Some a
      → get m a ≡ Some (tree_at trees i)

-- what a view keeps true of its rows, beside what it keeps true of its store: where they may stay,
-- the tables are those that a store makes, and nothing changed them since the view began
pub record IsShelved {S : Type 0} (g : Ghosts S) (b : Beginning) (v : Viewed S)
    (fronts : List CachedDocument) (may_stay : Bool) : Type 0 where
  pub view : IsView g b v
  pub rows : IsClean g v.store → HeldDocuments b → AreFronts (trees_under b v.addresses) fronts
  pub stays : IsTrue may_stay → IsReady (state g v.store) → IsStoreSchema b.database.schema
      × ((state g v.store).now ≡ b.database)

-- # A shelf after a put and after a drop

-- the front stands at the place of the address, in place of another or as one more
pub record HasPut (old new : Cache) (address : List ℕ) (front : CachedDocument) : Type 0 where
  pub place : ℕ
  pub did : ((slice_get old.addresses.value place ≡ Some address)
      × (new.addresses.value ≡ old.addresses.value)
      × (new.fronts.items ≡ set old.fronts.items place front))
      ⊎ (IsGap old.addresses.value place address
      × (new.addresses.value ≡ insert old.addresses.value place address)
      × (new.fronts.items ≡ insert old.fronts.items place front))

-- the address is gone with its front, or there was none
pub record HasDropped (old new : Cache) (address : List ℕ) : Type 0 where
  pub place : ℕ
  pub did : ((slice_get old.addresses.value place ≡ Some address)
      × (new.addresses.value ≡ remove old.addresses.value place)
      × (new.fronts.items ≡ remove old.fronts.items place))
      ⊎ (IsGap old.addresses.value place address × (new ≡ old))
