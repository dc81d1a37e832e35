-- What a view gives, and what it gives back.
use Rattle.std.proofs.Common.{◌≡◌, ◌+◌, ◌-◌, ◌≤◌, ◌<◌, ℕ, zero, suc, Bool, true, false, List, [], ◌∷◌, ◌++◌, length, map, take, drop, Some, nat_lt, refl, sym, ap, subst, ◌∙◌, arith, String, Global, string_bytes}
use Rattle.std.specs.Prelude.{slice_get, slice_index_or}
use Rattle.std.specs.FinMap.{get, keys, values}
use Rattle.std.specs.List.{enumerate_from}
use Rattle.std.proofs.lemmas.Bool.{ltb-true, ltb-false}
use Rattle.sqlite_trees.specs.declared.store.Store.{Ghosts}
use Rattle.sqlite.specs.Held.{Held}
use Rattle.xq_trees.specs.Forest.{count}
use Rattle.xq_trees.specs.Tree.{Tree, IsTree, nodes}
use Rattle.xq_trees.specs.Rows.{Row, rows, row_at, measured, placed, placed_rows}
use Rattle.xq_trees.specs.Nesting.{count-measured}
use Rattle.xq_trees.specs.declared.NodeRow.{NodeRow}
use Rattle.xq_sources.specs.Meters.{Readings}
use Rattle.xq_sources.specs.Sources.{rows_between, tree_at as nth_tree}
use Rattle.xq_sources.proofs.Intervals.{between-places}
use Rattle.xq_tables.specs.Documents.{Map, IsClean, IsOpen, StandsFor, documents_in, tree_at}
use Rattle.xq_store.specs.Views.{Beginning, HeldDocuments, StoodFor, Viewed, IsView, WasClean, WasOpen, beginning, trees_under}
use Rattle.xq_tables.proofs.Keys.{values_are, get_at}
use Rattle.xq_tables.proofs.Loads.{length-labels}
use Rattle.xq_tables.proofs.Ranges.{own_document}
use Rattle.xq_tables.specs.Labels.{shown_rows}

-- # As the view begins

module _ {S : Type 0} (g : Ghosts S) (b : Beginning) (store : Held S) (same : beginning g store ≡ b) where
  pub began_clean : IsClean g store → WasClean b
  unfolding IsClean WasClean beginning
  began_clean clean = subst WasClean same clean

  pub began_open : IsOpen g store → WasOpen b
  unfolding IsOpen WasOpen beginning
  began_open opened = subst WasOpen same opened

  -- the store stands for the map that it stood for, and stood for the one that it stands for
  pub stood_stands : (m : Map) → StoodFor b m → StandsFor g store m
  unfolding StandsFor StoodFor beginning
  stood_stands m stood opened = subst (λ b. StoodFor b m) (sym same) stood

  pub stands_stood : IsOpen g store → (m : Map) → StandsFor g store m → StoodFor b m
  unfolding IsOpen StandsFor StoodFor beginning
  stands_stood opened m stands = subst (λ b. StoodFor b m) same (stands opened)

  -- the addresses were read
  module _ (new : Held S) (addresses : List (List ℕ)) (meter : Readings) (lent : List (ℕ × Row)) (clean : IsClean g new → IsClean g store) (opens : IsClean g new → IsOpen g store)
      (stays : IsClean g new → (m : Map) → StandsFor g store m → StandsFor g new m) (all : IsClean g new → (m : Map) → StandsFor g store m → addresses ≡ keys m) where
    pub new_view : IsView g b (record { store = new; addresses = addresses; meter = meter; lent = lent })
    new_view = record {
      was_clean = λ now. began_clean (clean now);
      was_open = λ now. began_open (opens now);
      stands = λ now m stood. stays now m (stood_stands m stood);
      listed = λ now m stood. all now m (stood_stands m stood);
    }

pub trees_stood : (b : Beginning) (addresses : List (List ℕ)) (m : Map) → StoodFor b m → addresses ≡ keys m → trees_under b addresses ≡ values m
unfolding StoodFor
trees_stood b addresses m stood listed =
    let table = shown_rows b.database in
    ap (map (tree_at table)) (listed ∙ ap keys (sym stood.1)) ∙ sym (values_are table stood.0.named stood.0.whole) ∙ ap values stood.1

pub stood_held : (b : Beginning) (m : Map) → StoodFor b m → HeldDocuments b
unfolding StoodFor HeldDocuments
stood_held b m stood = stood.0

-- # Reads

nth_of : (f : List ℕ → Tree) (list : List (List ℕ)) (i : ℕ) (a : List ℕ) → slice_get list i ≡ Some a → nth_tree (map f list) i ≡ f a
nth_of f [] i a e = absurd cc
nth_of f (x ∷ list) zero a e = let same : x ≡ a = cc in ap f same
nth_of f (x ∷ list) (suc i) a e = nth_of f list i a e

pub nth_in : (f : List ℕ → Tree) (list : List (List ℕ)) (i : ℕ) (a : List ℕ) → slice_get list i ≡ Some a → i < length (map f list)
nth_in f [] i a e = absurd cc
nth_in f (x ∷ list) zero a e = omega arith
nth_in f (x ∷ list) (suc i) a e = let more = nth_in f list i a e in omega (arith, more)

-- the address that was looked up
pub looked_up : (items : List (String Global)) (i : ℕ) (s : String Global) → i < length items → s ≡ slice_index_or items i s → slice_get (map string_bytes items) i ≡ Some (string_bytes s)
looked_up [] i s h e = absurd (omega arith)
looked_up (x ∷ items) zero s h e = ap (λ z. Some (string_bytes z)) (sym e)
looked_up (x ∷ items) (suc i) s h e = looked_up items i s (omega arith) e

abbrev pub began_map : Beginning → Map
began_map b = documents_in (shown_rows b.database)

module _ {S : Type 0} (g : Ghosts S) (b : Beginning) (v : Viewed S) (is : IsView g b v) where
  pub stands_held : IsClean g v.store → HeldDocuments b → StandsFor g v.store (began_map b)
  unfolding StoodFor HeldDocuments
  stands_held clean held = is.stands clean (began_map b) (held, refl)

  -- what a view knows of the tree of an address
  module _ (clean : IsClean g v.store) (held : HeldDocuments b) (i : ℕ) (a : List ℕ) (here : slice_get v.addresses i ≡ Some a) where
    stood : StoodFor b (began_map b)
    unfolding StoodFor HeldDocuments
    stood = (held, refl)

    pub stands_now : StandsFor g v.store (began_map b)
    stands_now = is.stands clean (began_map b) stood

    pub its_tree : get (began_map b) a ≡ Some (nth_tree (trees_under b v.addresses) i)
    unfolding HeldDocuments
    its_tree =
        let table = shown_rows b.database in
        let listed = ap (λ l. slice_get l i) (sym (is.listed clean (began_map b) stood)) ∙ here in
        get_at table held.named held.whole i a listed ∙ ap Some (sym (nth_of (tree_at table) v.addresses i a here))

    pub is_its_tree : IsTree (nth_tree (trees_under b v.addresses) i)
    unfolding HeldDocuments
    is_its_tree = own_document b.database a (nth_tree (trees_under b v.addresses) i) held its_tree

-- # One row

pub one_placed : (n v : ℕ) (rs : List Row) → v < length rs → take 1 (drop v (enumerate_from n rs)) ≡ (n + v, row_at rs v) ∷ []
one_placed n v [] h = absurd (omega arith)
one_placed n zero (r ∷ rs) h = let e : n ≡ n + 0 = omega arith in ap (λ k. (k, r) ∷ []) e
one_placed n (suc v) (r ∷ rs) h = let e : n + 1 + v ≡ n + suc v = omega arith in one_placed (n + 1) v rs (omega arith) ∙ ap (λ k. (k, row_at rs v) ∷ []) e

none_placed : (n v : ℕ) (rs : List Row) → length rs ≤ v → take 1 (drop v (enumerate_from n rs)) ≡ []
none_placed n zero [] h = refl
none_placed n (suc v) [] h = refl
none_placed n zero (r ∷ rs) h = absurd (omega arith)
none_placed n (suc v) (r ∷ rs) h = none_placed (n + 1) v rs (omega arith)

some_left : (rest : List NodeRow) (row : NodeRow) → map placed (rest ++ row ∷ []) ≡ [] → ⊥
some_left [] row e = absurd cc
some_left (r ∷ rest) row e = absurd cc

last_alone : (rest : List NodeRow) (row : NodeRow) (p : ℕ × Row) → map placed (rest ++ row ∷ []) ≡ p ∷ [] → placed row ≡ p
last_alone [] row p e = cc
last_alone (r ∷ rest) row p e = let none : map placed (rest ++ row ∷ []) ≡ [] = cc in absurd (some_left rest row none)

-- the row that was read with both bounds at its place
pub popped : (t : Tree) (v : ℕ) (rest : List NodeRow) (row : NodeRow) → map placed (rest ++ row ∷ []) ≡ rows_between t v v → (v < count (nodes t)) × (placed row ≡ (v, row_at (rows t) v))
popped t v rest row e = go (nat_lt v (length (rows t))) refl
  where
    one : map placed (rest ++ row ∷ []) ≡ take 1 (drop v (placed_rows t))
    one =
        let n : v + 1 - v ≡ 1 = omega arith in
        e ∙ between-places v 0 v v (rows t) (let z : v ≡ 0 + v = omega arith in z) ∙ ap (λ m. take m (drop v (placed_rows t))) n

    size : length (rows t) ≡ count (nodes t)
    size = length-labels (measured 0 (nodes t)) ∙ count-measured 0 (nodes t)

    go : (b : Bool) → nat_lt v (length (rows t)) ≡ b → (v < count (nodes t)) × (placed row ≡ (v, row_at (rows t) v))
    go true h =
        let low : v < length (rows t) = ltb-true v (length (rows t)) h in
        let z : 0 + v ≡ v = omega arith in
        (omega (arith, low, size), last_alone rest row _ (one ∙ one_placed 0 v (rows t) low) ∙ ap (λ k. (k, row_at (rows t) v)) z)
    go false h = absurd (some_left rest row (one ∙ none_placed 0 v (rows t) (ltb-false v (length (rows t)) h)))
