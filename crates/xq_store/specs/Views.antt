-- What a view of a store is, and which trees it gives.
use Rattle.std.specs.Prelude.{◌≡◌, ℕ, Bool, List, map, IsTrue, refl}
use Rattle.std.specs.Coded.{Coded, code_by, coded×, coded_ℕ, coded_list}
use Rattle.xq_trees.specs.Codes.{row_code}
use Rattle.xq_trees.specs.Rows.{Row}
use Rattle.std.specs.FinMap.{keys}
use Rattle.sqlite_trees.specs.View.{doubt}
use Rattle.sqlite_trees.specs.declared.store.Store.{Ghosts}
use Rattle.sqlite.specs.Effect.{Database}
use Rattle.sqlite.specs.Held.{Held, held_code, state}
use Rattle.xq_trees.specs.Tree.{Tree}
use Rattle.xq_sources.specs.Meters.{Readings}
use Rattle.xq_tables.specs.Documents.{Map, IsStore, IsClean, StandsFor, tree_at, documents_of}
use Rattle.xq_tables.specs.Labels.{shown_rows}

-- # What contracts see of a view

-- the store that it reads, the addresses of its trees, what its meter shows, and the rows that it
-- lends
pub record Viewed (S : Type 0) : Type 0 where
  pub store : Held S
  pub addresses : List (List ℕ)
  pub meter : Readings
  pub lent : List (ℕ × Row)

-- a code of all four parts, from one of the store
abbrev pub viewed_code : {S : Type 0} → Coded S → Coded (Viewed S)
viewed_code {S} store =
    code_by (Held S × (List (List ℕ) × ((ℕ × (ℕ × ℕ)) × List (ℕ × Row))))
    (coded× (held_code store) (coded× (coded_list (coded_list coded_ℕ))
    (coded× (coded× coded_ℕ (coded× coded_ℕ coded_ℕ)) (coded_list (coded× coded_ℕ row_code)))))
    (λ v. (v.store, (v.addresses, ((v.meter.rows, (v.meter.singles, v.meter.looks)), v.lent))))
    (λ p. record {
      store = p.0;
      addresses = p.1.0;
      meter = record { rows = p.1.1.0.0; singles = p.1.1.0.1.0; looks = p.1.1.0.1.1 };
      lent = p.1.1.1;
    })
    (λ _. refl)

-- # The store as a view of it begins

-- its database, whether it is open, and whether its disk has returned what was written
pub record Beginning : Type 0 where
  pub database : Database
  pub is_open : Bool
  pub is_clean : Bool

-- A store, as a contract sees it: its connection. `g` are the ghosts of what it keeps its
-- database in.
module _ {S : Type 0} (g : Ghosts S) (store : Held S) where
  -- the store as it now is, for a view of it to begin with
  unfoldable pub beginning : Beginning
  beginning = record {
    database = (state g store).now;
    is_open =
        (state g store).is_open;
    is_clean = (state g store).is_clean;
  }

-- The tables held documents as the view began.
unfoldable pub HeldDocuments : Beginning → Type 0
HeldDocuments b = IsStore b.database

-- They stood for this map.
unfoldable pub StoodFor : Beginning → Map → Type 0
StoodFor b m = IsStore b.database × (documents_of b.database ≡ m)

-- It was open.
unfoldable pub WasOpen : Beginning → Type 0
WasOpen b = IsTrue b.is_open

-- Its disk had returned what was written.
unfoldable pub WasClean : Beginning → Type 0
WasClean b = doubt b.is_clean ≡ 0

-- # The trees of a view

-- the documents of the addresses, as the view began
abbrev pub trees_under : Beginning → List (List ℕ) → List Tree
trees_under b addresses = map (tree_at (shown_rows b.database)) addresses

-- What a view keeps true: its store stands for the map that it stood for as the view began, and its
-- addresses are the map's.
pub record IsView {S : Type 0} (g : Ghosts S) (b : Beginning) (v : Viewed S) : Type 0 where
  pub was_clean : IsClean g v.store → WasClean b
  pub was_open : IsClean g v.store → WasOpen b
  pub stands : IsClean g v.store → (m : Map) → StoodFor b m → StandsFor g v.store m
  pub listed : IsClean g v.store → (m : Map) → StoodFor b m → v.addresses ≡ keys m
