-- What is kept of documents that were carried over.
use Rattle.std.proofs.Common.{◌≡◌, ℕ, List, map, length, sym, ap, subst, subst₂, ◌∙◌}
use Rattle.std.specs.FinMap.{keys}
use Rattle.std.proofs.lemmas.List.{length-map}
use Rattle.sqlite_trees.specs.declared.store.Store.{Ghosts}
use Rattle.sqlite.specs.Effect.{Database}
use Rattle.sqlite.specs.Held.{Held, state}
use Rattle.xq_trees.specs.Tree.{Tree}
use Rattle.xq_tables.specs.Documents.{documents_of, tree_at, AreApart, HaveInts, IsOldStore, IsReady}
use Rattle.xq_tables.specs.Labels.{shown_rows}
use Rattle.xq_tables.specs.Tables.{layout_rows}
use Rattle.xq_store.specs.declared.shelves.Cache.{Cache}
use Rattle.xq_tables.specs.Moves.{HasCarried, Moves}
use Rattle.xq_store.specs.private.Keeps.{AreOf}
use Rattle.xq_tables.specs.Outside.{StaysOutside}
use Rattle.xq_store.specs.private.Shelves.{AreFronts}
use Rattle.xq_tables.proofs.AdoptReads.{was_ready}
use Rattle.xq_tables.proofs.MapPlaces.{apart, keys_rise}
use Rattle.xq_tables.proofs.Places as old
use Rattle.xq_tables.proofs.Carrying.{carried}

-- the addresses that were read are those of what is kept
kept_of : (was now : Database) (shelf : Cache) → HasCarried was now → shelf.addresses.value ≡ keys (documents_of was) → ((trees : List Tree) → length trees ≡ length shelf.addresses.value → AreFronts trees shelf.fronts.items) → AreOf now shelf.addresses.value shelf.fronts.items
kept_of was now shelf it listed fronts = record {
  listed = listed ∙ ap keys (sym it.same);
  rows = fronts (map (tree_at (shown_rows now)) shelf.addresses.value) (length-map shelf.addresses.value (tree_at (shown_rows now)));
}

-- # The calls of a carrying over, one after another

module _ {S : Type 0} (g : Ghosts S) (start one two three new : Held S) (layout : StaysOutside g one two) (lists : StaysOutside g two three) (moving : StaysOutside g three new)
    (same_one : IsReady (state g one) → (state g one).now ≡ (state g start).now) (same_two : IsReady (state g two) → (state g two).now ≡ (state g one).now) (same_three : IsReady (state g three) → (state g three).now ≡ (state g two).now)
    (store : IsReady (state g one) → IsOldStore (state g start).now) (ids : IsReady (state g two) → AreApart (layout_rows (state g one).now) × HaveInts (layout_rows (state g one).now))
    (shelf : Cache) (listed : IsReady (state g three) → IsOldStore (state g two).now → shelf.addresses.value ≡ keys (documents_of (state g two).now))
    (addresses : List (List ℕ)) (are : addresses ≡ shelf.addresses.value) (moved : IsReady (state g new) → Moves addresses (state g three).now (state g new).now) (ready : IsReady (state g new)) where
  third : IsReady (state g three)
  third = was_ready g three new moving ready

  second : IsReady (state g two)
  second = was_ready g two three lists third

  first : IsReady (state g one)
  first = was_ready g one two layout second

  two_is : (state g two).now ≡ (state g start).now
  two_is = same_two second ∙ same_one first

  was : IsOldStore (state g start).now
  was = store first

  all_listed : shelf.addresses.value ≡ keys (documents_of (state g start).now)
  all_listed = listed third (subst IsOldStore (sym two_is) was) ∙ ap (λ (d : Database). keys (documents_of d)) two_is

  pub all_carried : HasCarried (state g start).now (state g new).now
  all_carried =
      let moves = subst₂ (λ l (d : Database). Moves l d (state g new).now) (are ∙ all_listed) (same_three third ∙ two_is) (moved ready) in
      let apart_ids = subst (λ (d : Database). AreApart (layout_rows d) × HaveInts (layout_rows d)) (same_one first) (ids second) in
      carried (state g start).now (state g new).now was (moves was.schema was.apart was.ints apart_ids.0 apart_ids.1 (keys_rise (documents_of (state g start).now)))

  pub all_kept : ((trees : List Tree) → length trees ≡ length shelf.addresses.value → AreFronts trees shelf.fronts.items) → AreOf (state g new).now shelf.addresses.value shelf.fronts.items
  all_kept fronts = kept_of (state g start).now (state g new).now shelf all_carried all_listed fronts
