-- What a call of a store comes to, from what it does to the connection.
use Rattle.std.proofs.Common.{Option, Some, Bool, IfOk, ◌≡◌, ◌+◌, ◌≤◌, ℕ, suc, List, [], ◌∷◌, map, IsTrue, refl, sym, ap, subst, ◌∙◌, arith, nat_lt, Result, Ok, Err, OnOk, OnErr}
use Rattle.std.specs.List.{enumerate_from}
use Rattle.std.specs.FinMap.{get, insert, remove, contains_key, keys, empty}
use Rattle.sqlite_trees.specs.View.{doubt}
use Rattle.sqlite_trees.specs.declared.store.Store.{Ghosts}
use Rattle.sqlite.specs.Held.{Held, state}
use Rattle.sqlite.specs.State.{HasCleanDisk}
use Rattle.xq_atoms.specs.Address.{IsAddress}
use Rattle.xq_trees.specs.Tree.{Tree, IsDocument}
use Rattle.xq_trees.specs.Rows.{Row, row_of, placed, placed_rows, AreNumbered, Encodes}
use Rattle.xq_trees.specs.declared.NodeRow.{NodeRow}
use Rattle.xq_tables.specs.Nodes.{cells}
use Rattle.xq_tables.specs.Documents.{Map, IsReady, IsClean, IsOpen, StandsFor, documents_in, is_at, IsStore}
use Rattle.xq_tables.specs.Writes.{IsEmptyStore, Deletes, Puts}
use Rattle.xq_tables.specs.Reads.{AreAbove, AreAddresses, Finds, IsRange}
use Rattle.xq_tables.specs.Labels.{shown_rows, IsStoreSchema}
use Rattle.sqlite_value.specs.declared.value.Value.TheVariants.{Text}
use Rattle.xq_tables.proofs.Loads.{most, found_is}
use Rattle.xq_tables.proofs.Keys.{keys_are}
use Rattle.xq_tables.proofs.Ranges.{range_is, above_is}
use Rattle.xq_sources.specs.Sources.{rows_between, rows_enclosing}
use Rattle.xq_tables.proofs.Maps.{store_drops, store_puts, dropped_map, put_map, was_there, no_documents}

pub on_err : {A B : Type 0} (P : Type 0) (r : Result A B) → P → OnErr r P
on_err P (Ok x) h = tt
on_err P (Err e) h = h

pub on_ok : {A B : Type 0} (P : Type 0) (r : Result A B) → P → OnOk r P
on_ok P (Ok x) h = h
on_ok P (Err e) h = tt

-- the numbered rows of a tree are its rows with their places
numbered_from : (n : ℕ) (rs : List NodeRow) → AreNumbered n rs → map placed rs ≡ enumerate_from n (map row_of rs)
numbered_from n [] h = refl
numbered_from n (r ∷ rs) h =
    let next : suc n ≡ n + 1 = omega arith in
    let more : map placed rs ≡ enumerate_from (n + 1) (map row_of rs) = subst (λ m. map placed rs ≡ enumerate_from m (map row_of rs)) next (numbered_from (suc n) rs h.1) in
    rw (h.0, more) refl

pub encoded : (rs : List NodeRow) (t : Tree) → Encodes rs t → map placed rs ≡ placed_rows t
encoded rs t it = numbered_from 0 rs it.numbered ∙ ap (enumerate_from 0) it.rows

module _ {S : Type 0} (g : Ghosts S) (conn old new : Held S) (same : conn ≡ old) where
  pub was_clean : doubt (state g conn).is_clean ≤ doubt (state g new).is_clean → IsClean g new → IsClean g old
  unfolding IsClean
  was_clean clean now =
      let early : HasCleanDisk (state g conn) = omega (arith, clean, now) in
      subst (λ (h : Held S). HasCleanDisk (state g h)) same early

  -- what the store stands for as the call begins
  before : (m : Map) → StandsFor g old m → IsTrue (state g conn).is_open → IsStore (state g conn).now × (documents_in (shown_rows (state g conn).now) ≡ m)
  unfolding StandsFor
  before m stands = subst (λ (h : Held S). StandsFor g h m) (sym same) stands

  -- a call that finds the connection open where it leaves it open
  module _ (opens : IsReady (state g new) → IsTrue (state g conn).is_open) where
    pub was_open : IsClean g new → IsOpen g new → IsOpen g old
    unfolding IsClean IsOpen
    was_open clean opened = subst (λ (h : Held S). IsTrue (state g h).is_open) same (opens (clean, opened))

    -- the database is as it was
    pub kept_stands : (IsReady (state g new) → (state g new).now ≡ (state g conn).now) → IsClean g new → (m : Map) → StandsFor g old m → StandsFor g new m
    unfolding IsClean StandsFor
    kept_stands kept clean m stands opened =
        let held = before m stands (opens (clean, opened)) in
        let stays = kept (clean, opened) in
        (subst IsStore (sym stays) held.0, ap (λ db. documents_in (shown_rows db)) stays ∙ held.1)

    -- a query leaves the database as it is
    pub read_stands : (IsReady (state g new) → IsStoreSchema (state g conn).now.schema → (state g new).now ≡ (state g conn).now)
        → IsClean g new → (m : Map) → StandsFor g old m → StandsFor g new m
    unfolding IsClean StandsFor
    read_stands kept clean m stands opened =
        let held = before m stands (opens (clean, opened)) in
        let stays = kept (clean, opened) held.0.sound.schema in
        (subst IsStore (sym stays) held.0, ap (λ db. documents_in (shown_rows db)) stays ∙ held.1)

    pub loaded : {E : Type 0} (a : List ℕ) (nodes : List NodeRow) (r : Result (Option Tree) E) → (IsReady (state g new) → IsRange a 0 most (state g conn).now (map cells (map placed nodes)))
        → IfOk r (Finds nodes) → (HasCleanDisk (state g new) → IsTrue (state g new).is_open) → IsClean g new → (m : Map) → StandsFor g old m → IfOk r (λ found. found ≡ get m a)
    unfolding IsClean
    loaded a nodes (Err e) range finds ends clean m stands = tt
    loaded a nodes (Ok found) range finds ends clean m stands =
        let ready : IsReady (state g new) = (clean, ends clean) in
        let held = before m stands (opens ready) in
        found_is (state g conn).now a nodes found held.0 (range ready) finds ∙ ap (λ d. get d a) held.1

    -- the rows of a document that were read
    module _ {X E : Type 0} (list : X → List NodeRow) (r : Result X E) (a : List ℕ) (ends : HasCleanDisk (state g new) → OnOk r (IsTrue (state g new).is_open)) where
      pub ranged : (low high : ℕ) → (IsReady (state g new) → IfOk r (λ x. IsRange a low high (state g conn).now (map cells (map placed (list x)))))
          → IsClean g new → (m : Map) → StandsFor g old m → (t : Tree) → get m a ≡ Some t → IfOk r (λ x. map placed (list x) ≡ rows_between t low high)
      unfolding IsClean
      ranged low high range clean m stands t has = elim r as (λ q. (HasCleanDisk (state g new) → OnOk q (IsTrue (state g new).is_open))
          → (IsReady (state g new) → IfOk q (λ x. IsRange a low high (state g conn).now (map cells (map placed (list x))))) → IfOk q (λ x. map placed (list x) ≡ rows_between t low high)) [
            | Ok x ↦ λ ends range.
                let ready : IsReady (state g new) = (clean, ends clean) in
                let held = before m stands (opens ready) in
                range_is (state g conn).now a low high t (map placed (list x)) held.0 (ap (λ d. get d a) held.1 ∙ has) (range ready)
            | Err e ↦ λ _ _. tt
          ] ends range

      pub raised : (node : ℕ) → (IsReady (state g new) → IfOk r (λ x. AreAbove a node (state g conn).now (map cells (map placed (list x)))))
          → IsClean g new → (m : Map) → StandsFor g old m → (t : Tree) → get m a ≡ Some t → IfOk r (λ x. map placed (list x) ≡ rows_enclosing t node)
      unfolding IsClean
      raised node above clean m stands t has = elim r as (λ q. (HasCleanDisk (state g new) → OnOk q (IsTrue (state g new).is_open))
          → (IsReady (state g new) → IfOk q (λ x. AreAbove a node (state g conn).now (map cells (map placed (list x))))) → IfOk q (λ x. map placed (list x) ≡ rows_enclosing t node)) [
            | Ok x ↦ λ ends above.
                let ready : IsReady (state g new) = (clean, ends clean) in
                let held = before m stands (opens ready) in
                above_is (state g conn).now a node t (map placed (list x)) held.0 (ap (λ d. get d a) held.1 ∙ has) (above ready)
            | Err e ↦ λ _ _. tt
          ] ends above

    pub all_listed : {X E : Type 0} (bytes : X → List (List ℕ)) (r : Result X E) → (IsReady (state g new) → IfOk r (λ all. AreAddresses (state g conn).now (map (λ a. Text a ∷ []) (bytes all))))
        → (HasCleanDisk (state g new) → OnOk r (IsTrue (state g new).is_open)) → IsClean g new → (m : Map) → StandsFor g old m → IfOk r (λ all. bytes all ≡ keys m)
    unfolding IsClean
    all_listed bytes (Err e) shown ends clean m stands = tt
    all_listed bytes (Ok all) shown ends clean m stands =
        let ready : IsReady (state g new) = (clean, ends clean) in
        let held = before m stands (opens ready) in
        keys_are (shown_rows (state g conn).now) (bytes all) held.0.named held.0.whole (shown ready held.0) ∙ ap keys held.1

    -- the rows of an address were deleted
    module _ (ends : HasCleanDisk (state g new) → IsTrue (state g new).is_open) (a : List ℕ) (count : ℕ)
        (did : IsReady (state g new) → Deletes (is_at a) (state g conn).now (state g new).now count) where
      pub drop_stands : IsClean g new → (m : Map) → StandsFor g old m → StandsFor g new (remove m a)
      unfolding IsClean StandsFor
      drop_stands clean m stands opened =
          let ready : IsReady (state g new) = (clean, opened) in
          let held = before m stands (opens ready) in
          let was = held.0 in
          let dropped = (did ready was.sound).0 in
          (store_drops a (state g conn).now (state g new).now dropped was, dropped_map a (state g conn).now (state g new).now dropped was ∙ ap (λ d. remove d a) held.1)

      pub drop_answer : IsClean g new → (m : Map) → StandsFor g old m → nat_lt 0 count ≡ contains_key m a
      unfolding IsClean
      drop_answer clean m stands =
          let ready : IsReady (state g new) = (clean, ends clean) in
          let held = before m stands (opens ready) in
          let was = held.0 in
          was_there a (state g conn).now count was (did ready was.sound).1 ∙ ap (λ d. contains_key d a) held.1

    -- the rows of a document were put in their place
    module _ (ends : HasCleanDisk (state g new) → IsTrue (state g new).is_open) (a : List ℕ) (good : IsAddress a) (t : Tree) (is : IsDocument t)
        (rows : List (ℕ × Row)) (same_rows : rows ≡ placed_rows t) (replaced : Bool) (did : IsReady (state g new) → Puts a (map cells rows) (state g conn).now (state g new).now replaced) where
      puts : IsReady (state g new) → Puts a (map cells (placed_rows t)) (state g conn).now (state g new).now replaced
      puts up = subst (λ l. Puts a (map cells l) (state g conn).now (state g new).now replaced) same_rows (did up)

      pub put_stands : IsClean g new → (m : Map) → StandsFor g old m → StandsFor g new (insert m a t)
      unfolding IsClean StandsFor
      put_stands clean m stands opened =
          let ready : IsReady (state g new) = (clean, opened) in
          let held = before m stands (opens ready) in
          let it = puts ready held.0 in (
            store_puts a good t is (state g conn).now (state g new).now it.0 held.0,
            put_map a good t is (state g conn).now (state g new).now it.0 held.0 ∙ ap (λ d. insert d a t) held.1,
          )

      pub put_answer : IsClean g new → (m : Map) → StandsFor g old m → replaced ≡ contains_key m a
      unfolding IsClean
      put_answer clean m stands =
          let ready : IsReady (state g new) = (clean, ends clean) in
          let held = before m stands (opens ready) in
          let it = puts ready held.0 in
          it.1 ∙ was_there a (state g conn).now _ held.0 refl ∙ ap (λ d. contains_key d a) held.1

-- what is left open, as clauses say it
module _ {S : Type 0} (g : Ghosts S) (new : Held S) where
  pub clean_now : HasCleanDisk (state g new) → IsClean g new
  unfolding IsClean
  clean_now clean = clean

  pub leaves_open : (HasCleanDisk (state g new) → IsTrue (state g new).is_open) → IsClean g new → IsOpen g new
  unfolding IsClean IsOpen
  leaves_open ends clean = ends clean

pub on_ok_clean : {S A B : Type 0} (g : Ghosts S) (new : Held S) (r : Result A B) → (HasCleanDisk (state g new) → OnOk r (IsTrue (state g new).is_open)) → IsClean g new → OnOk r (IsOpen g new)
unfolding IsClean IsOpen
on_ok_clean g new r ends clean = ends clean

-- a new store
module _ {S : Type 0} (g : Ghosts S) (store : Held S) (ready : IsReady (state g store)) (made : IsEmptyStore (state g store).now) where
  pub new_clean : IsClean g store
  unfolding IsClean
  new_clean = ready.0

  pub new_open : IsOpen g store
  unfolding IsOpen
  new_open = ready.1

  pub new_empty : StandsFor g store empty
  unfolding StandsFor
  new_empty opened = (made.0, no_documents (shown_rows (state g store).now) made.1)
