-- Grouping and ordering are the same whatever stands for the items, and keep their nodes.
use Rattle.std.proofs.Common.{◌≡◌, ℕ, zero, suc, ◌++◌, List, [], ◌∷◌, length, map, filter, fold, Bool, true, false, not, Option, Some, None, Ok, Err, Result, refl, sym, ◌∙◌, ap, subst}
use Rattle.std.specs.Prelude.{if◌then◌else◌, IfOk, IfErr, flat_map}
use Rattle.std.specs.List.{AllByRecursion, list_all, zip, range_with_len}
use Rattle.std.specs.declared.cmp.Ordering.{Ordering}
use Rattle.std.specs.Ordering.{is_lt}
use Rattle.std.proofs.lemmas.List.{map-append, length-map}
use Rattle.std.proofs.lemmas.List.Concat.{flat_map-cons}
use Rattle.xq_atoms.specs.declared.refusals.Fault.{Fault}
use Rattle.xq_atoms.specs.declared.refusals.Fault.TheVariants.{Code as OfCode, Want as OfWant}
use Rattle.xq_atoms.specs.Atom.{Atomic}
use Rattle.xq_atoms.specs.Judged.{Judged}
use Rattle.xq_trees.specs.Items.{ItemView, Value}
use Rattle.xq_trees.specs.Tree.{Tree}
use Rattle.xq_trees.specs.Tuples.{Tuple, Keyed, OrderRule, inserted, sorted, ordered, can_order, sort_keys, keys_cmp, key_rows, extended, firsts, groups, same_keys, slot_key, grouped_value, grouped_tuple, grouped, are_keys, key_value, value_at}
use Rattle.xq_atoms.specs.Answers.{IsRefusal}
use Rattle.xq_tuples.proofs.Lists.{map-map}
use Rattle.xq_meaning.proofs.PathLemmas.{filter-map}
use Rattle.xq_meaning.specs.Items.{Item, Atom}
use Rattle.xq_meaning.specs.Readings.{item_at, items_at, AreIn}
use Rattle.xq_meaning.specs.Doing.{judged}
use Rattle.xq_operators.specs.Views.{tuple_at, tuples_at, TupleIn, TuplesIn, GivesTuples}
use Rattle.xq_trees.proofs.Lists.{all_append, all_filter}
use Rattle.xq_operators.proofs.Existing.{all_map}

-- # Lists

module _ {X Y : Type 0} (h : X → Y) (cmp : X → X → Ordering) (cmp' : Y → Y → Ordering) (same : (x y : X) → cmp' (h x) (h y) ≡ cmp x y) where
  inserted_read : (x : X) (ys : List X) → map h (inserted cmp x ys) ≡ inserted cmp' (h x) (map h ys)
  inserted_read x [] = refl
  inserted_read x (y ∷ ys) =
      (elim (is_lt (cmp y x)) as (λ b. map h (if b then y ∷ inserted cmp x ys else x ∷ y ∷ ys) ≡ (if b then h y ∷ inserted cmp' (h x) (map h ys) else h x ∷ h y ∷ map h ys)) [
        | true ↦ ap (λ l. h y ∷ l) (inserted_read x ys)
        | false ↦ refl
      ])
      ∙ ap (λ o. if is_lt o then h y ∷ inserted cmp' (h x) (map h ys) else h x ∷ h y ∷ map h ys) (sym (same y x))

  sorted_read : (xs : List X) → map h (sorted cmp xs) ≡ sorted cmp' (map h xs)
  sorted_read [] = refl
  sorted_read (x ∷ xs) = inserted_read x (sorted cmp xs) ∙ ap (inserted cmp' (h x)) (sorted_read xs)

inserted_all : {X : Type 0} (P : X → Type 0) (cmp : X → X → Ordering) (x : X) (ys : List X) → P x → AllByRecursion P ys → AllByRecursion P (inserted cmp x ys)
inserted_all P cmp x [] h k = (h, tt)
inserted_all P cmp x (y ∷ ys) h k =
    elim (is_lt (cmp y x)) as (λ b. AllByRecursion P (if b then y ∷ inserted cmp x ys else x ∷ y ∷ ys)) [
      | true ↦ (k.0, inserted_all P cmp x ys h k.1)
      | false ↦ (h, k)
    ]

sorted_all : {X : Type 0} (P : X → Type 0) (cmp : X → X → Ordering) (xs : List X) → AllByRecursion P xs → AllByRecursion P (sorted cmp xs)
sorted_all P cmp [] h = tt
sorted_all P cmp (x ∷ xs) h = inserted_all P cmp x (sorted cmp xs) h.0 (sorted_all P cmp xs h.1)

zip_all : {X K : Type 0} (P : X → Type 0) (xs : List X) (ks : List K) → AllByRecursion P xs → AllByRecursion (λ (p : X × K). P p.0) (zip xs ks)
zip_all P [] ks h = tt
zip_all P (x ∷ xs) [] h = tt
zip_all P (x ∷ xs) (k ∷ ks) h = (h.0, zip_all P xs ks h.1)

all_of : {A B : Type 0} (Q : B → Type 0) (f : A → B) → ((x : A) → Q (f x)) → (xs : List A) → AllByRecursion Q (map f xs)
all_of Q f step [] = tt
all_of Q f step (x ∷ xs) = (step x, all_of Q f step xs)

-- # Tuples with their keys

module _ {X Y K : Type 0} (r : X → Y) where
  abbrev beside : X × K → Y × K
  beside p = (r p.0, p.1)

  zip_read : (xs : List X) (ks : List K) → zip (map r xs) ks ≡ map beside (zip xs ks)
  zip_read [] ks = refl
  zip_read (x ∷ xs) [] = refl
  zip_read (x ∷ xs) (k ∷ ks) = ap (λ ps. (r x, k) ∷ ps) (zip_read xs ks)

  first_read : (ps : List (X × K)) → map (λ p. p.0) (map beside ps) ≡ map r (map (λ p. p.0) ps)
  first_read [] = refl
  first_read (p ∷ ps) = ap (λ xs. r p.0 ∷ xs) (first_read ps)

module _ {X Y : Type 0} (r : X → Y) where
  no_keys : {K : Type 0} (xs : List X) → map (λ (y : Y). let none : List K = [] in none) (map r xs) ≡ map (λ (x : X). let none : List K = [] in none) xs
  no_keys [] = refl
  no_keys {K} (x ∷ xs) = ap (λ (l : List (List K)). [] ∷ l) (no_keys xs)

  rows_read : {K : Type 0} (xs : List X) (columns : List (List K)) → key_rows (map r xs) columns ≡ key_rows xs columns
  rows_read xs columns = ap (λ rows. fold extended rows columns) (no_keys xs)

-- what a judgement gives, read
abbrev pub read_ok : {A B : Type 0} → (A → B) → Judged A → Judged B
read_ok f (Ok x) = Ok (f x)
read_ok f (Err code) = Err code

abbrev pub OfOk : {A : Type 0} → (A → Type 0) → Judged A → Type 0
OfOk P (Ok x) = P x
OfOk P (Err code) = Unit {0}

read_if : {A B : Type 0} (f : A → B) (b : Bool) (x : A) (y : B) (other : Judged A) (other' : Judged B) → y ≡ f x → other' ≡ read_ok f other → (if b then Ok y else other') ≡ read_ok f (if b then Ok x else other)
read_if f true x y other other' h k = ap Ok h
read_if f false x y other other' h k = k

of_if : {A : Type 0} (P : A → Type 0) (b : Bool) (x : A) (other : Judged A) → P x → OfOk P other → OfOk P (if b then Ok x else other)
of_if P true x other h k = h
of_if P false x other h k = k

-- a stream that is judged over views
pub gives_stream : (trees : List Tree) (judgement : Judged (List (Tuple ItemView))) (meant : Judged (List (Tuple Item))) (result : Result (List (Tuple ItemView)) Fault) → meant ≡ read_ok (tuples_at trees) judgement → OfOk (TuplesIn trees) judgement
    → IfOk result (λ stream. judgement ≡ Ok stream) → IfErr result (IsRefusal judgement) → GivesTuples (judged meant trees) trees result
gives_stream trees judgement meant (Ok stream) is inside ok err =
    let value : meant ≡ Ok (tuples_at trees stream) = is ∙ ap (read_ok (tuples_at trees)) ok in
    (subst (OfOk (TuplesIn trees)) ok inside, λ i. (value i, trees))
gives_stream trees judgement meant (Err (OfCode code)) is inside ok err = is ∙ ap (read_ok (tuples_at trees)) err
gives_stream trees judgement meant (Err (OfWant want)) is inside ok err = tt

module _ (trees : List Tree) where
  -- # order by

  pub ordered_read : (rules : List OrderRule) (tuples : List (Tuple ItemView)) (columns : List (List (List Atomic))) → ordered rules (tuples_at trees tuples) columns ≡ read_ok (tuples_at trees) (ordered rules tuples columns)
  ordered_read rules tuples columns =
      let keys = map sort_keys columns in
      let r = tuple_at trees in
      let rows = key_rows tuples keys in
      read_if (tuples_at trees) (list_all can_order columns) (map (λ p. p.0) (sorted (λ p q. keys_cmp rules p.1 q.1) (zip tuples rows))) _ _ _
      (ap (λ ks. map (λ p. p.0) (sorted (λ p q. keys_cmp rules p.1 q.1) (zip (map r tuples) ks))) (rows_read r tuples keys)
      ∙ ap (λ ps. map (λ p. p.0) (sorted (λ p q. keys_cmp rules p.1 q.1) ps)) (zip_read r tuples rows)
      ∙ ap (map (λ p. p.0)) (sym (sorted_read (beside r) (λ p q. keys_cmp rules p.1 q.1) (λ p q. keys_cmp rules p.1 q.1) (λ p q. refl) (zip tuples rows)))
      ∙ first_read r (sorted (λ p q. keys_cmp rules p.1 q.1) (zip tuples rows)))
      refl

  pub ordered_in : (rules : List OrderRule) (tuples : List (Tuple ItemView)) (columns : List (List (List Atomic))) → TuplesIn trees tuples → OfOk (TuplesIn trees) (ordered rules tuples columns)
  ordered_in rules tuples columns h =
      let keys = map sort_keys columns in
      let rows = key_rows tuples keys in
      of_if (TuplesIn trees) (list_all can_order columns) _ _
      (all_map (λ p. TupleIn trees p.0) (TupleIn trees) (λ p. p.0) (λ p k. k) (sorted (λ p q. keys_cmp rules p.1 q.1) (zip tuples rows))
      (sorted_all (λ p. TupleIn trees p.0) (λ p q. keys_cmp rules p.1 q.1) (zip tuples rows) (zip_all (TupleIn trees) tuples rows h)))
      tt

  -- # group by

  abbrev keyed_at : Keyed ItemView → Keyed Item
  keyed_at p = (tuple_at trees p.0, p.1)

  firsts_read : (ps : List (Keyed ItemView)) → firsts same_keys (map keyed_at ps) ≡ map keyed_at (firsts same_keys ps)
  firsts_read [] = refl
  firsts_read (p ∷ ps) =
      ap (λ l. keyed_at p ∷ filter (λ q. not (same_keys (keyed_at p) q)) l) (firsts_read ps)
      ∙ ap (λ l. keyed_at p ∷ l) (filter-map (λ q. not (same_keys (keyed_at p) q)) keyed_at (firsts same_keys ps))

  groups_read : (ps : List (Keyed ItemView)) → groups same_keys (map keyed_at ps) ≡ map (map keyed_at) (groups same_keys ps)
  groups_read ps =
      ap (map (λ p. filter (same_keys p) (map keyed_at ps))) (firsts_read ps)
      ∙ map-map (λ p. filter (same_keys p) (map keyed_at ps)) keyed_at (firsts same_keys ps)
      ∙ (λ i. map (λ p. filter-map (same_keys (keyed_at p)) keyed_at ps i) (firsts same_keys ps))
      ∙ sym (map-map (map keyed_at) (λ p. filter (same_keys p) ps) (firsts same_keys ps))

  pub value_read : (slot : ℕ) (tuple : Tuple ItemView) → value_at slot (tuple_at trees tuple) ≡ items_at trees (value_at slot tuple)
  value_read slot [] = refl
  value_read zero (v ∷ vs) = refl
  value_read (suc slot) (v ∷ vs) = value_read slot vs

  values_read : (slot : ℕ) (group : List (Keyed ItemView)) → flat_map (λ p. value_at slot p.0) (map keyed_at group) ≡ items_at trees (flat_map (λ p. value_at slot p.0) group)
  values_read slot [] = refl
  values_read slot (p ∷ ps) =
      flat_map-cons (λ q. value_at slot q.0) (keyed_at p) (map keyed_at ps)
      ∙ ap (λ v. v ++ flat_map (λ q. value_at slot q.0) (map keyed_at ps)) (value_read slot p.0)
      ∙ ap (λ v. items_at trees (value_at slot p.0) ++ v) (values_read slot ps)
      ∙ sym (map-append (item_at trees) (value_at slot p.0) (flat_map (λ q. value_at slot q.0) ps))
      ∙ ap (items_at trees) (sym (flat_map-cons (λ q. value_at slot q.0) p ps))

  grouped_value_read : (key : Option (Option Atomic)) (slot : ℕ) (group : List (Keyed ItemView)) → grouped_value Atom key slot (map keyed_at group) ≡ items_at trees (grouped_value Value key slot group)
  grouped_value_read (Some None) slot group = refl
  grouped_value_read (Some (Some a)) slot group = refl
  grouped_value_read None slot group = values_read slot group

  grouped_tuple_read : (slots : List ℕ) (group : List (Keyed ItemView)) → grouped_tuple Atom slots (map keyed_at group) ≡ tuple_at trees (grouped_tuple Value slots group)
  grouped_tuple_read slots [] = refl
  grouped_tuple_read slots (p ∷ ps) =
      ap (λ n. map (λ slot. grouped_value Atom (slot_key slots p.1 slot) slot (map keyed_at (p ∷ ps))) (range_with_len 0 n)) (length-map p.0 (items_at trees))
      ∙ (λ i. map (λ slot. grouped_value_read (slot_key slots p.1 slot) slot (p ∷ ps) i) (range_with_len 0 (length p.0)))
      ∙ sym (map-map (items_at trees) (λ slot. grouped_value Value (slot_key slots p.1 slot) slot (p ∷ ps)) (range_with_len 0 (length p.0)))

  pub grouped_read : (slots : List ℕ) (tuples : List (Tuple ItemView)) (columns : List (List (List Atomic))) → grouped Atom slots (tuples_at trees tuples) columns ≡ read_ok (tuples_at trees) (grouped Value slots tuples columns)
  grouped_read slots tuples columns =
      let keys = map (map key_value) columns in
      let r = tuple_at trees in
      let rows = key_rows tuples keys in
      read_if (tuples_at trees) (are_keys columns) (map (grouped_tuple Value slots) (groups same_keys (zip tuples rows))) _ _ _
      (ap (λ ks. map (grouped_tuple Atom slots) (groups same_keys (zip (map r tuples) ks))) (rows_read r tuples keys)
      ∙ ap (λ ps. map (grouped_tuple Atom slots) (groups same_keys ps)) (zip_read r tuples rows)
      ∙ ap (map (grouped_tuple Atom slots)) (groups_read (zip tuples rows))
      ∙ map-map (grouped_tuple Atom slots) (map keyed_at) (groups same_keys (zip tuples rows))
      ∙ (λ i. map (λ group. grouped_tuple_read slots group i) (groups same_keys (zip tuples rows)))
      ∙ sym (map-map (tuple_at trees) (grouped_tuple Value slots) (groups same_keys (zip tuples rows))))
      refl

  value_in : (slot : ℕ) (tuple : Tuple ItemView) → TupleIn trees tuple → AreIn trees (value_at slot tuple)
  value_in slot [] h = tt
  value_in zero (v ∷ vs) h = h.0
  value_in (suc slot) (v ∷ vs) h = value_in slot vs h.1

  abbrev KeyedIn : Keyed ItemView → Type 0
  KeyedIn p = TupleIn trees p.0

  values_in : (slot : ℕ) (group : List (Keyed ItemView)) → AllByRecursion KeyedIn group → AreIn trees (flat_map (λ p. value_at slot p.0) group)
  values_in slot [] h = tt
  values_in slot (p ∷ ps) h =
      subst (AreIn trees) (sym (flat_map-cons (λ q. value_at slot q.0) p ps))
      (all_append _ (value_at slot p.0) (flat_map (λ q. value_at slot q.0) ps) (value_in slot p.0 h.0) (values_in slot ps h.1))

  grouped_value_in : (key : Option (Option Atomic)) (slot : ℕ) (group : List (Keyed ItemView)) → AllByRecursion KeyedIn group → AreIn trees (grouped_value Value key slot group)
  grouped_value_in (Some None) slot group h = tt
  grouped_value_in (Some (Some a)) slot group h = (tt, tt)
  grouped_value_in None slot group h = values_in slot group h

  grouped_tuple_in : (slots : List ℕ) (group : List (Keyed ItemView)) → AllByRecursion KeyedIn group → TupleIn trees (grouped_tuple Value slots group)
  grouped_tuple_in slots [] h = tt
  grouped_tuple_in slots (p ∷ ps) h = all_of (AreIn trees) _ (λ slot. grouped_value_in (slot_key slots p.1 slot) slot (p ∷ ps) h) (range_with_len 0 (length p.0))

  pub grouped_in : (slots : List ℕ) (tuples : List (Tuple ItemView)) (columns : List (List (List Atomic))) → TuplesIn trees tuples → OfOk (TuplesIn trees) (grouped Value slots tuples columns)
  grouped_in slots tuples columns h =
      let keys = map (map key_value) columns in
      let rows = key_rows tuples keys in
      let ps = zip tuples rows in
      of_if (TuplesIn trees) (are_keys columns) _ _
      (all_map (AllByRecursion KeyedIn) (TupleIn trees) (grouped_tuple Value slots) (grouped_tuple_in slots) (groups same_keys ps)
      (all_of (AllByRecursion KeyedIn) (λ p. filter (same_keys p) ps) (λ p. all_filter KeyedIn (same_keys p) ps (zip_all (TupleIn trees) tuples rows h)) (firsts same_keys ps)))
      tt
