-- What a reading of an answer to its end leaves.
use Rattle.std.specs.Prelude.{◌≡◌, ◌⊎◌, ℕ, List, [], IsTrue}
use Rattle.sqlite_value.specs.Order.{Row}
use Rattle.sqlite_trees.specs.declared.store.Store.{Ghosts}
use Rattle.sqlite.specs.Given.{IsPlain, HasGiven}
use Rattle.sqlite.specs.Held.{Held, state}
use Rattle.sqlite.specs.Listing.{understood}
use Rattle.sqlite.specs.State.{State, IsUnchanged, Shown}

-- what is open was so before, and sees what it saw, or what was committed
abbrev pub Stays : State → State → Type 0
Stays old new = IsTrue old.is_open × ((new.now ≡ old.now) ⊎ (new.now ≡ old.committed))

-- the answer of a query that had given no row has rows that have a property
abbrev pub GivesRows : {S : Type 0} → Ghosts S → Held S → Held S → (List Row → Type 0) → Type 0
GivesRows g old new P = (sql : List ℕ) → (params : Row) → IsPlain (understood old.schema sql)
    → HasGiven g sql params old []
    → (rows : List Row) × Shown sql params (state g old) (state g new) rows × P rows

-- the answer of a query that had given no row begins with rows that have a property, and nothing
-- is changed
pub record BeginsWith {S : Type 0} (g : Ghosts S) (old new : Held S)
    (P : List Row → Type 0) : Type 0 where
  pub same : IsUnchanged (state g old) (state g new)
  pub given : (sql : List ℕ) → (params : Row) → HasGiven g sql params old []
      → (rows : List Row) × HasGiven g sql params new rows × P rows
