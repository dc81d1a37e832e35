-- What a store keeps, over what it does to its connection.
use Rattle.std.proofs.Common.{◌≡◌, ◌≤◌, inl, inr, ℕ, suc, List, [], ◌∷◌, length, String, Global, Option, Some, None, rc_value, Bool, false, Result, Ok, Err, OnOk, IfOk, IfSome, IsTrue, map, string_bytes, refl, sym, ap, subst, ◌∙◌, arith}
use Rattle.std.specs.FinMap.{keys}
use Rattle.sqlite_trees.specs.View.{doubt}
use Rattle.sqlite_value.specs.Order.{Row}
use Rattle.sqlite_trees.specs.declared.store.Store.{Ghosts}
use Rattle.sqlite.specs.Held.{Held, state}
use Rattle.sqlite.specs.State.{HasCleanDisk}
use Rattle.xq_trees.specs.Tree.{Tree, IsDocument}
use Rattle.xq_store.specs.declared.shelves.Cache.{Cache}
use Rattle.xq_tables.specs.Documents.{IsReady, IsClean, IsOpen, IsUp, IsStore, Map, StandsFor, documents_in, is_at, tree_at}
use Rattle.xq_tables.specs.Labels.{shown_rows, IsStoreSchema}
use Rattle.xq_store.specs.Views.{Beginning, HeldDocuments, StoodFor, Viewed, beginning, trees_under}
use Rattle.xq_store.specs.private.Keeps.{AreOf, IsKeeping, IsKept, Keeps, KeepsShelf, LeavesAlone}
use Rattle.xq_tables.specs.Outside.{StaysOutside}
use Rattle.xq_store.specs.declared.shelves.CachedDocument.{CachedDocument}
use Rattle.xq_store.specs.private.Shelves.{AreFronts, AreKeptOf, HasDropped as ShelfHasDropped, HasPut, IsFrontOf, IsShelved}
use Rattle.xq_tables.specs.Writes.{AreThere, Deletes, IsEmptyStore, Puts, PutsOver}
use Rattle.xq_tables.specs.Nodes.{cells}
use Rattle.xq_atoms.specs.Address.{IsAddress}
use Rattle.xq_trees.specs.Rows.{Row as Node, placed_rows}
use Rattle.sqlite.specs.Effect.{Database}
use Rattle.xq_tables.proofs.Maps.{no_keys, store_drops, store_puts}
use Rattle.xq_tables.proofs.Renewals.{none_there}
use Rattle.xq_store.proofs.Shelving.{front_there, kept_drop, kept_put}

-- a shelf without an address
pub empty_of : (db : Database) (shelf : Cache) → IsEmptyStore db → (shelf.addresses.value ≡ []) × (shelf.fronts.items ≡ []) → AreOf db shelf.addresses.value shelf.fronts.items
empty_of db s none are =
    subst (λ l. AreOf db l s.fronts.items) (sym are.0) (subst (AreOf db []) (sym are.1) (record { listed = no_keys db none.1; rows = tt }))

module _ {S : Type 0} (g : Ghosts S) where
  -- # Calls that leave the tables alone

  pub leaves : (conn old new : Held S) → conn ≡ old → doubt (state g conn).is_clean ≤ doubt (state g new).is_clean → (IsReady (state g new) → IsTrue (state g conn).is_open)
      → (IsReady (state g new) → IsStoreSchema (state g conn).now.schema → (state g new).now ≡ (state g conn).now) → LeavesAlone g old new
  leaves conn old new is clean opens same = subst (λ (h : Held S). LeavesAlone g h new) is (record {
    was_clean = λ now. (let early : HasCleanDisk (state g conn) = omega (arith, clean, now) in early);
    was_open = opens;
    same = same;
  })

  pub leaves_refl : (conn : Held S) → LeavesAlone g conn conn
  leaves_refl conn = record { was_clean = λ now. now; was_open = λ ready. ready.1; same = λ ready own. refl }

  pub leaves_then : (first second third : Held S) → LeavesAlone g first second → LeavesAlone g second third → LeavesAlone g first third
  leaves_then first second third one two = record {
    was_clean = λ now. one.was_clean (two.was_clean now);
    was_open = λ ready. one.was_open (two.was_clean ready.0, two.was_open ready);
    same = λ ready own. (
        let mid : IsReady (state g second) = (two.was_clean ready.0, two.was_open ready) in
        let e = one.same mid own in
        two.same ready (subst (λ db. IsStoreSchema db.schema) (sym e) own) ∙ e);
  }

  module _ (old new : Held S) (alone : LeavesAlone g old new) where
    was_ready : IsReady (state g new) → IsReady (state g old)
    was_ready ready = (alone.was_clean ready.0, alone.was_open ready)

    pub alone_clean : IsClean g new → IsClean g old
    unfolding IsClean
    alone_clean clean = alone.was_clean clean

    pub alone_open : IsClean g new → IsOpen g new → IsOpen g old
    unfolding IsClean IsOpen
    alone_open clean opened = alone.was_open (clean, opened)

    pub alone_stands : IsClean g new → (m : Map) → StandsFor g old m → StandsFor g new m
    unfolding IsClean StandsFor
    alone_stands clean m stands opened =
        let ready : IsReady (state g new) = (clean, opened) in
        let held = stands (alone.was_open ready) in
        let e = alone.same ready held.0.sound.schema in
        (subst IsStore (sym e) held.0, ap (λ db. documents_in (shown_rows db)) e ∙ held.1)

  -- # What is kept of a document

  kept_there : (conn : Held S) (shelf : Option Cache) → IsKeeping g conn shelf → (a : List ℕ) (rows : List (ℕ × Node)) → AreKeptOf shelf a rows → IsReady (state g conn) → AreThere a 0 (length rows) rows (state g conn).now
  kept_there conn None keeping a rows none ready = subst (λ l. AreThere a 0 (length l) l (state g conn).now) (sym none) (none_there a (state g conn).now (keeping.holds ready))
  kept_there conn (Some shelf) keeping a rows found ready =
      let db = (state g conn).now in
      let store = keeping.holds ready in
      elim found.1 [
        | inl it ↦ subst (λ l. AreThere a 0 (length l) l db) (sym it.1) (front_there db store shelf.addresses.value shelf.fronts.items (keeping.keeps ready) found.0 a it.0)
        | inr it ↦ subst (λ l. AreThere a 0 (length l) l db) (sym it.1) (none_there a db store)
      ]

  -- # What is true of a store, after a call

  module _ (conn new : Held S) (stays : StaysOutside g conn new) (shelf : Option Cache) (keeping : IsKeeping g conn shelf) where
    pub early : IsReady (state g new) → IsReady (state g conn)
    early ready = let c = stays.clean in let was : HasCleanDisk (state g conn) = omega (arith, c, ready.0) in (was, stays.was_open ready)

    -- a call that leaves the tables alone
    module _ (same : IsReady (state g new) → IsStoreSchema (state g conn).now.schema → (state g new).now ≡ (state g conn).now) where
      holds_on : IsReady (state g new) → IsStore (state g new).now
      holds_on ready = let is = keeping.holds (early ready) in subst IsStore (sym (same ready is.sound.schema)) is

      keeps_on : (kept : Option Cache) → Keeps g conn kept → Keeps g new kept
      keeps_on None keeps = tt
      keeps_on (Some kept) keeps = λ ready.
          subst (λ db. AreOf db kept.addresses.value kept.fronts.items) (sym (same ready (keeping.holds (early ready)).sound.schema)) (keeps (early ready))

      pub forgets : IsKeeping g new None
      forgets = record { outside = stays.mode; holds = holds_on; keeps = tt }

      pub goes_on : IsKeeping g new shelf
      goes_on = record { outside = stays.mode; holds = holds_on; keeps = keeps_on shelf keeping.keeps }

    -- a put looked at the rows that were kept
    pub puts_over : (a : List ℕ) (kept : List (ℕ × Node)) → AreKeptOf shelf a kept → (rows : List Row) (replaced : Bool) → (IsReady (state g new) → PutsOver a kept rows (state g conn).now (state g new).now replaced)
        → IsReady (state g new) → Puts a rows (state g conn).now (state g new).now replaced
    puts_over a kept are rows replaced did ready = (let was = early ready in did ready (kept_there conn shelf keeping a kept are was))

    -- a document was put
    pub has_put : (a : List ℕ) → IsAddress a → (t : Tree) → IsDocument t → (rows : List (ℕ × Node)) → rows ≡ placed_rows t → (replaced : Bool) → (IsReady (state g new) → Puts a (map cells rows) (state g conn).now (state g new).now replaced)
        → (front : CachedDocument) → IsFrontOf t front → (later : Option Cache) → IfSome later (λ l. (earlier : Cache) × (shelf ≡ Some earlier) × HasPut earlier l a front) → IsKeeping g new later
    has_put a good t is rows same_rows replaced did front own later edited = record {
      outside = stays.mode;
      holds = λ ready. (
          let was = keeping.holds (early ready) in
          let puts = puts_tree ready was in
          store_puts a good t is (state g conn).now (state g new).now puts.0 was);
      keeps = kept later edited;
    }
      where
        puts_tree : (ready : IsReady (state g new)) → Puts a (map cells (placed_rows t)) (state g conn).now (state g new).now replaced
        puts_tree ready = subst (λ l. Puts a (map cells l) (state g conn).now (state g new).now replaced) same_rows (did ready)

        kept : (later : Option Cache) → IfSome later (λ l. (earlier : Cache) × (shelf ≡ Some earlier) × HasPut earlier l a front) → Keeps g new later
        kept None edited = tt
        kept (Some l) edited = λ ready.
            let before : KeepsShelf g conn edited.0 = subst (Keeps g conn) edited.1 keeping.keeps in
            let was = keeping.holds (early ready) in
            let puts = puts_tree ready was in
            kept_put a good t is (state g conn).now (state g new).now puts.0 was edited.0 l front edited.2 own (before (early ready))

    -- a document was dropped
    pub has_dropped : (a : List ℕ) (count : ℕ) → (IsReady (state g new) → Deletes (is_at a) (state g conn).now (state g new).now count)
        → (later : Option Cache) → IfSome later (λ l. (earlier : Cache) × (shelf ≡ Some earlier) × ShelfHasDropped earlier l a) → IsKeeping g new later
    has_dropped a count did later edited = record {
      outside = stays.mode;
      holds = λ ready. (
          let was = keeping.holds (early ready) in
          store_drops a (state g conn).now (state g new).now (did ready was.sound).0 was);
      keeps = kept later edited;
    }
      where
        kept : (later : Option Cache) → IfSome later (λ l. (earlier : Cache) × (shelf ≡ Some earlier) × ShelfHasDropped earlier l a) → Keeps g new later
        kept None edited = tt
        kept (Some l) edited = λ ready.
            let before : KeepsShelf g conn edited.0 = subst (Keeps g conn) edited.1 keeping.keeps in
            let was = keeping.holds (early ready) in
            kept_drop a (state g conn).now (state g new).now (did ready was.sound).0 was edited.0 l edited.2 (before (early ready))

  -- with rows of other documents forgotten, the same is true
  pub roomier : (conn : Held S) (shelf later : Option Cache) → IsKeeping g conn shelf
      → IfSome later (λ l. (earlier : Cache) × (shelf ≡ Some earlier) × (l.addresses ≡ earlier.addresses) × ((trees : List Tree) → AreFronts trees earlier.fronts.items → AreFronts trees l.fronts.items)) → IsKeeping g conn later
  roomier conn shelf later keeping roomy = record { outside = keeping.outside; holds = keeping.holds; keeps = go later roomy }
    where
      go : (later : Option Cache) → IfSome later (λ l. (earlier : Cache) × (shelf ≡ Some earlier) × (l.addresses ≡ earlier.addresses) × ((trees : List Tree) → AreFronts trees earlier.fronts.items → AreFronts trees l.fronts.items)) → Keeps g conn later
      go None roomy = tt
      go (Some l) roomy = λ ready.
          let before : KeepsShelf g conn roomy.0 = subst (Keeps g conn) roomy.1 keeping.keeps in
          let same : l.addresses.value ≡ roomy.0.addresses.value = ap rc_value roomy.2 in
          let was = before ready in
          record {
            listed = same ∙ was.listed;
            rows = subst (λ ks. AreFronts (map (tree_at (shown_rows (state g conn).now)) ks) l.fronts.items) (sym same) (roomy.3 _ was.rows);
          }

  -- a new store, with no address kept
  pub keeping_empty : (conn : Held S) → conn.in_transaction ≡ false → IsEmptyStore (state g conn).now → (shelf : Option Cache) → IfSome shelf (λ s. (s.addresses.value ≡ []) × (s.fronts.items ≡ [])) → IsKeeping g conn shelf
  keeping_empty conn mode made shelf are = record { outside = mode; holds = λ _. made.0; keeps = go shelf are }
    where
      go : (shelf : Option Cache) → IfSome shelf (λ s. (s.addresses.value ≡ []) × (s.fronts.items ≡ [])) → Keeps g conn shelf
      go None are = tt
      go (Some s) are = λ _. empty_of (state g conn).now s made are

  -- # What is taken

  -- the store stands for the documents that its tables hold
  pub held_stands : (store : Held S) → IsStore (state g store).now → StandsFor g store (documents_in (shown_rows (state g store).now))
  unfolding StandsFor
  held_stands store holds opened = (holds, refl)

  module _ (conn old new : Held S) (is : conn ≡ old) (stays : StaysOutside g conn new) (before : Option Cache) (keeping : IsKeeping g conn before) where
    pub taken : (shelf : Cache) → KeepsShelf g conn shelf → (HasCleanDisk (state g new) → IsTrue (state g new).is_open) → IsClean g new → IsStore (state g old).now → AreOf (state g old).now shelf.addresses.value shelf.fronts.items
    unfolding IsClean
    taken shelf kept ends now holds = subst (λ (h : Held S). AreOf (state g h).now shelf.addresses.value shelf.fronts.items) is (kept (early conn new stays before keeping (now, ends now)))

    pub taken_own : IsUp g new → IsStoreSchema (state g old).now.schema
    unfolding IsUp
    taken_own ready = subst (λ (h : Held S). IsStoreSchema (state g h).now.schema) is (keeping.holds (early conn new stays before keeping ready)).sound.schema

  -- the addresses were listed
  pub taken_anew : {E : Type 0} (conn old new : Held S) → conn ≡ old → (r : Result Cache E) → (IsReady (state g new) → IsStore (state g conn).now → IfOk r (λ shelf. AreOf (state g conn).now shelf.addresses.value shelf.fronts.items))
      → (HasCleanDisk (state g new) → OnOk r (IsTrue (state g new).is_open)) → IsClean g new → IsStore (state g old).now → IfOk r (λ shelf. AreOf (state g old).now shelf.addresses.value shelf.fronts.items)
  unfolding IsClean
  taken_anew conn old new is (Err e) of ends now holds = tt
  taken_anew conn old new is (Ok shelf) of ends now holds = subst (λ (h : Held S). IsStore (state g h).now → AreOf (state g h).now shelf.addresses.value shelf.fronts.items) is (of (now, ends now)) holds

  -- what was taken may be kept
  pub taken_kept : (old new : Held S) → LeavesAlone g old new → (shelf : Cache) → (IsClean g new → IsStore (state g old).now → AreOf (state g old).now shelf.addresses.value shelf.fronts.items) → (IsUp g new → IsStoreSchema (state g old).now.schema) → IsKept g new shelf
  unfolding IsClean IsUp
  taken_kept old new alone shelf of own = record {
    holds = λ ready is. (
        let e = alone.same ready (own ready) in
        subst (λ db. AreOf db shelf.addresses.value shelf.fronts.items) (sym e) (of ready.0 (subst IsStore e is)));
  }

  -- they are the addresses of the map
  pub listed_keys : (old new : Held S) → LeavesAlone g old new → (IsClean g new → IsOpen g new) → (addresses : List (List ℕ)) → (fronts : List CachedDocument) → (IsClean g new → IsStore (state g old).now → AreOf (state g old).now addresses fronts)
      → IsClean g new → (m : Map) → StandsFor g old m → addresses ≡ keys m
  unfolding StandsFor IsOpen IsClean
  listed_keys old new alone answered addresses fronts of clean m stands =
      let held = stands (alone.was_open (clean, answered clean)) in
      (of clean held.0).listed ∙ ap keys held.1

  -- # A view

  module _ (b : Beginning) (old new : Held S) (same : beginning g old ≡ b) (alone : LeavesAlone g old new) (answered : IsClean g new → IsOpen g new) (shelf : Cache)
      (of : IsClean g new → IsStore (state g old).now → AreOf (state g old).now shelf.addresses.value shelf.fronts.items) where
    pub opened_before : IsClean g new → IsOpen g old
    opened_before clean = alone_open old new alone clean (answered clean)

    pub all_named : IsClean g new → (m : Map) → StandsFor g old m → shelf.addresses.value ≡ keys m
    unfolding StandsFor IsOpen
    all_named clean m stands = let held = stands (opened_before clean) in (of clean held.0).listed ∙ ap keys held.1

    pub own_rows : IsClean g new → HeldDocuments b → AreFronts (trees_under b shelf.addresses.value) shelf.fronts.items
    unfolding HeldDocuments beginning
    own_rows clean held =
        let rows : IsStore (beginning g old).database → AreFronts (trees_under (beginning g old) shelf.addresses.value) shelf.fronts.items = λ is. (of clean is).rows in
        subst (λ b. IsStore b.database → AreFronts (trees_under b shelf.addresses.value) shelf.fronts.items) same rows held

    pub may_stay : (IsUp g new → IsTrue shelf.stays → IsStoreSchema (state g old).now.schema) → IsTrue shelf.stays → IsReady (state g new) → IsStoreSchema b.database.schema × ((state g new).now ≡ b.database)
    unfolding IsUp beginning
    may_stay own stays ready = let e = own ready stays in (subst (λ b. IsStoreSchema b.database.schema) same e, alone.same ready e ∙ ap (λ b. b.database) same)

  -- what a view gives back may be kept
  pub given_back : (b : Beginning) (v : Viewed S) (shelf : Cache) → v.addresses ≡ shelf.addresses.value → IsShelved g b v shelf.fronts.items shelf.stays → IsTrue shelf.stays → IsKept g v.store shelf
  unfolding StoodFor HeldDocuments IsClean
  given_back b v shelf named is stays = record {
    holds = λ ready held. (
        let e = (is.stays stays ready).1 in
        let began = subst IsStore e held in
        let there : AreOf b.database shelf.addresses.value shelf.fronts.items = record {
          listed = sym named ∙ is.view.listed ready.0 (documents_in (shown_rows b.database)) (began, refl);
          rows = subst (λ l. AreFronts (trees_under b l) shelf.fronts.items) named (is.rows ready.0 began);
        } in
        subst (λ db. AreOf db shelf.addresses.value shelf.fronts.items) (sym e) there);
  }

  -- reads leave what may stay
  pub still_stays : (b : Beginning) (old new : Held S) → LeavesAlone g old new → (IsReady (state g old) → IsStoreSchema b.database.schema × ((state g old).now ≡ b.database))
      → IsReady (state g new) → IsStoreSchema b.database.schema × ((state g new).now ≡ b.database)
  still_stays b old new alone stays ready =
      let it = stays (alone.was_clean ready.0, alone.was_open ready) in
      (it.0, alone.same ready (subst (λ db. IsStoreSchema db.schema) (sym it.1) it.0) ∙ it.1)

-- as many trees as addresses
pub tree_count : (f : List ℕ → Tree) (addresses : List (String Global)) → length (map f (map string_bytes addresses)) ≡ length addresses
tree_count f [] = refl
tree_count f (a ∷ addresses) = ap suc (tree_count f addresses)
