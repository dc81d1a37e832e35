-- The rows that are kept, after a put and after a drop.
use Rattle.std.proofs.Common.{◌≡◌, ◌≢◌, ◌≤◌, ℕ, zero, suc, List, [], ◌∷◌, map, length, Some, IfSome, refl, sym, ap, subst, ◌∙◌, arith, set, inl, inr}
use Rattle.std.specs.Prelude.{slice_get}
use Rattle.std.specs.FinMap.{keys}
use Rattle.std.specs.List.{AllByRecursion, insert as insert_at, remove as remove_at}
use Rattle.sqlite.specs.Effect.{Database}
use Rattle.xq_atoms.specs.Address.{IsAddress}
use Rattle.xq_trees.specs.Tree.{Tree, IsDocument}
use Rattle.xq_trees.specs.Rows.{placed_rows}
use Rattle.xq_sources.specs.Addresses.{IsBefore, IsGap, Rise}
use Rattle.xq_sources.proofs.Rising.{at_all}
use Rattle.xq_tables.specs.Documents.{IsStore, documents_of, is_at, tree_at}
use Rattle.xq_tables.specs.Nodes.{cells}
use Rattle.xq_tables.specs.Labels.{shown_rows}
use Rattle.xq_store.specs.declared.shelves.CachedDocument.{CachedDocument}
use Rattle.xq_store.specs.declared.shelves.Cache.{Cache}
use Rattle.xq_store.specs.private.Keeps.{AreOf}
use Rattle.xq_store.specs.private.Shelves.{AreFronts, HasDropped as ShelfHasDropped, HasPut, IsFront, IsFrontOf, front_at, kept_rows}
use Rattle.xq_tables.specs.Writes.{AreThere, HasDropped, HasReplaced}
use Rattle.xq_tables.proofs.MapPlaces.{apart, apart_too, gap_apart, keys_drop_gap, keys_drop_there, keys_put_gap, keys_put_there, keys_rise}
use Rattle.xq_tables.proofs.Keys.{get_at}
use Rattle.xq_tables.proofs.Renewals.{first_there}
use Rattle.xq_tables.proofs.Maps.{dropped_map, get-none, get-whole, own_tree, put_map, tree_stays_dropped, tree_stays_put}

-- # Fronts, place by place

-- `f` are the documents before, and `g` those after: they differ at one address
module _ (f g : List ℕ → Tree) (a : List ℕ) (others : (b : List ℕ) → b ≢ a → g b ≡ f b) where
  same_fronts : (ks : List (List ℕ)) (fronts : List CachedDocument) → AllByRecursion (λ b. b ≢ a) ks → AreFronts (map f ks) fronts → AreFronts (map g ks) fronts
  same_fronts [] [] all are = are
  same_fronts [] (x ∷ fronts) all are = are
  same_fronts (k ∷ ks) [] all are = are
  same_fronts (k ∷ ks) (x ∷ fronts) all are = (subst (λ t. IsFrontOf t x) (sym (others k all.0)) are.0, same_fronts ks fronts all.1 are.1)

  each_apart : (ks : List (List ℕ)) → AllByRecursion (IsBefore a) ks → AllByRecursion (λ b. b ≢ a) ks
  each_apart [] all = tt
  each_apart (k ∷ ks) all = (apart a k all.0, each_apart ks all.1)

  fronts_set : (ks : List (List ℕ)) (fronts : List CachedDocument) (i : ℕ) (front : CachedDocument) → Rise ks → slice_get ks i ≡ Some a → IsFrontOf (g a) front → AreFronts (map f ks) fronts → AreFronts (map g ks) (set fronts i front)
  fronts_set [] fronts i front up here own are = absurd cc
  fronts_set (k ∷ ks) [] i front up here own are = elim are [ ]
  fronts_set (k ∷ ks) (x ∷ fronts) zero front up here own are =
      let same : k ≡ a = subst (λ o. IfSome o (λ y. k ≡ y)) here refl in
      (subst (λ b. IsFrontOf (g b) front) (sym same) own, same_fronts ks fronts (each_apart ks (subst (λ b. AllByRecursion (IsBefore b) ks) same up.0)) are.1)
  fronts_set (k ∷ ks) (x ∷ fronts) (suc i) front up here own are =
      let less = at_all (IsBefore k) ks i a up.0 here in
      (subst (λ t. IsFrontOf t x) (sym (others k (apart_too k a less))) are.0, fronts_set ks fronts i front up.1 here own are.1)

  fronts_insert : (ks : List (List ℕ)) (fronts : List CachedDocument) (i : ℕ) (front : CachedDocument) → i ≤ length ks → AllByRecursion (λ b. b ≢ a) ks → IsFrontOf (g a) front → AreFronts (map f ks) fronts → AreFronts (map g (insert_at ks i a)) (insert_at fronts i front)
  fronts_insert ks fronts zero front within all own are = (own, same_fronts ks fronts all are)
  fronts_insert [] fronts (suc i) front within all own are = absurd (omega (arith, within))
  fronts_insert (k ∷ ks) [] (suc i) front within all own are = elim are [ ]
  fronts_insert (k ∷ ks) (x ∷ fronts) (suc i) front within all own are =
      (subst (λ t. IsFrontOf t x) (sym (others k all.0)) are.0, fronts_insert ks fronts i front (omega (arith, within)) all.1 own are.1)

  fronts_remove : (ks : List (List ℕ)) (fronts : List CachedDocument) (i : ℕ) → Rise ks → slice_get ks i ≡ Some a → AreFronts (map f ks) fronts → AreFronts (map g (remove_at ks i)) (remove_at fronts i)
  fronts_remove [] fronts i up here are = absurd cc
  fronts_remove (k ∷ ks) [] i up here are = elim are [ ]
  fronts_remove (k ∷ ks) (x ∷ fronts) zero up here are =
      let same : k ≡ a = subst (λ o. IfSome o (λ y. k ≡ y)) here refl in
      same_fronts ks fronts (each_apart ks (subst (λ b. AllByRecursion (IsBefore b) ks) same up.0)) are.1
  fronts_remove (k ∷ ks) (x ∷ fronts) (suc i) up here are =
      let less = at_all (IsBefore k) ks i a up.0 here in
      (subst (λ t. IsFrontOf t x) (sym (others k (apart_too k a less))) are.0, fronts_remove ks fronts i up.1 here are.1)

-- the front of an address
own_front : (f : List ℕ → Tree) (ks : List (List ℕ)) (fronts : List CachedDocument) (i : ℕ) (a : List ℕ) → slice_get ks i ≡ Some a → AreFronts (map f ks) fronts → IsFront (f a) (front_at fronts i)
own_front f [] fronts i a here are = absurd cc
own_front f (k ∷ ks) [] i a here are = elim are [ ]
own_front f (k ∷ ks) (x ∷ fronts) zero a here are =
    let same : k ≡ a = subst (λ o. IfSome o (λ y. k ≡ y)) here refl in
    subst (λ b. IsFront (f b) (kept_rows x)) same are.0.rows
own_front f (k ∷ ks) (x ∷ fronts) (suc i) a here are = own_front f ks fronts i a here are.1

-- # The shelf

-- what is kept of a document are its first rows
pub front_there : (db : Database) → IsStore db → (addresses : List (List ℕ)) (fronts : List CachedDocument) → AreOf db addresses fronts → (i : ℕ) (a : List ℕ) → slice_get addresses i ≡ Some a → AreThere a 0 (length (front_at fronts i)) (front_at fronts i) db
front_there db store addresses fronts of i a here =
    let table = shown_rows db in
    let first = own_front (tree_at table) addresses fronts i a here of.rows in
    let found = get_at table store.named store.whole i a (ap (λ l. slice_get l i) (sym of.listed) ∙ here) in
    elim (store.whole a) [
      | inl none ↦ absurd (let e = sym found ∙ get-none table a store.named none in cc)
      | inr some ↦
          let same : tree_at table a ≡ some.tree = (let e = sym found ∙ get-whole table a some.tree store.named some.same in subst (λ o. IfSome o (λ t. tree_at table a ≡ t)) e refl) in
          first_there a some.tree (front_at fronts i) db some.same (subst (λ t. IsFront t (front_at fronts i)) same first)
    ]

-- a document was put
module _ (a : List ℕ) (good : IsAddress a) (t : Tree) (is : IsDocument t) (old new : Database) (put : HasReplaced a (map cells (placed_rows t)) old new) (was : IsStore old) where
  pub kept_put : (earlier later : Cache) (front : CachedDocument) → HasPut earlier later a front → IsFrontOf t front → AreOf old earlier.addresses.value earlier.fronts.items → AreOf new later.addresses.value later.fronts.items
  kept_put earlier later front did own of =
      let m = documents_of old in
      let ks = earlier.addresses.value in
      let f = tree_at (shown_rows old) in
      let g = tree_at (shown_rows new) in
      let up : Rise ks = subst Rise (sym of.listed) (keys_rise m) in
      let others = tree_stays_put a t old new put in
      let owns : IsFrontOf (g a) front = subst (λ u. IsFrontOf u front) (sym (own_tree a t old new put)) own in
      let map_is = put_map a good t is old new put was in
      elim did.did [
        | inl it ↦ record {
          listed = it.1 ∙ of.listed ∙ sym (keys_put_there m a t did.place (ap (λ l. slice_get l did.place) (sym of.listed) ∙ it.0)) ∙ ap keys (sym map_is);
          rows = subst (λ l. AreFronts (map g l) later.fronts.items) (sym it.1) (subst (AreFronts (map g ks)) (sym it.2) (fronts_set f g a others ks earlier.fronts.items did.place front up it.0 owns of.rows));
        }
        | inr it ↦ record {
          listed = it.1 ∙ ap (λ l. insert_at l did.place a) of.listed ∙ sym (keys_put_gap m a t did.place (subst (λ l. IsGap l did.place a) of.listed it.0)) ∙ ap keys (sym map_is);
          rows = subst (λ l. AreFronts (map g l) later.fronts.items) (sym it.1)
              (subst (AreFronts (map g (insert_at ks did.place a))) (sym it.2) (fronts_insert f g a others ks earlier.fronts.items did.place front it.0.within (gap_apart a ks did.place it.0) owns of.rows));
        }
      ]

-- a document was dropped
module _ (a : List ℕ) (old new : Database) (dropped : HasDropped (is_at a) old new) (was : IsStore old) where
  pub kept_drop : (earlier later : Cache) → ShelfHasDropped earlier later a → AreOf old earlier.addresses.value earlier.fronts.items → AreOf new later.addresses.value later.fronts.items
  kept_drop earlier later did of =
      let m = documents_of old in
      let ks = earlier.addresses.value in
      let f = tree_at (shown_rows old) in
      let g = tree_at (shown_rows new) in
      let up : Rise ks = subst Rise (sym of.listed) (keys_rise m) in
      let others = tree_stays_dropped a old new dropped in
      let map_is = dropped_map a old new dropped was in
      elim did.did [
        | inl it ↦ record {
          listed = it.1 ∙ ap (λ l. remove_at l did.place) of.listed ∙ sym (keys_drop_there m a did.place (ap (λ l. slice_get l did.place) (sym of.listed) ∙ it.0)) ∙ ap keys (sym map_is);
          rows = subst (λ l. AreFronts (map g l) later.fronts.items) (sym it.1) (subst (AreFronts (map g (remove_at ks did.place))) (sym it.2) (fronts_remove f g a others ks earlier.fronts.items did.place up it.0 of.rows));
        }
        | inr it ↦ subst (λ (s : Cache). AreOf new s.addresses.value s.fronts.items) (sym it.1) (record {
          listed = of.listed ∙ sym (keys_drop_gap m a did.place (subst (λ l. IsGap l did.place a) of.listed it.0)) ∙ ap keys (sym map_is);
          rows = same_fronts f g a others ks earlier.fronts.items (gap_apart a ks did.place it.0) of.rows;
        })
      ]
