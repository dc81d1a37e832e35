-- Tuple streams whose values are legible.
use Rattle.std.proofs.Common.{ℕ, zero, suc, ◌+◌, pos, List, [], ◌∷◌, ◌++◌, map, filter, length, Bool, true, false, Option, Some, None, Ok, Err, flat_map}
use Rattle.std.specs.Prelude.{IfOk, if◌then◌else◌, ◌==◌, slice_get, option_and_then, fold, position}
use Rattle.std.specs.List.{AllByRecursion, zip, enumerate_from, range_with_len, list_all}
use Rattle.std.specs.List as lists
use Rattle.xq_atoms.specs.declared.refusals.Code.TheVariants.{XPTY0004}
use Rattle.std.specs.declared.cmp.Ordering.{Ordering}
use Rattle.std.specs.Ordering.{is_lt}
use Rattle.xq_atoms.specs.Compare.{Key}
use Rattle.xq_atoms.specs.Atom.{Atomic, Integer, Decimal, String, Boolean, Untyped}
use Rattle.xq_trees.specs.Tree.{Tree}
use Rattle.xq_trees.specs.Tuples.{Tuple, value_at, extended, bound, satisfying, item_values, empty_values, with_items, expanded, numbered, as_string, key_value, key_rows, firsts, groups, Keyed, same_keys, slot_key, key_items, grouped_value, grouped_tuple, grouped, OrderRule, inserted, sorted, ordered, keys_cmp, sort_keys, can_order, are_keys}
use Rattle.xq_trees.proofs.Lists.{all_append, all_filter, all_weaker}
use Rattle.xq_meaning.specs.Items.{Item, Atom, atomized}
use Rattle.xq_meaning.specs.Forms
use Rattle.xq_readback.specs.Legible.{IsLegible, IsLegibleItem, AreLegible, AreTrees}
use Rattle.xq_readback.proofs.Holding.{either_holds, all_of, all_map}
use Rattle.xq_readback.proofs.Trees.{atoms_legible}

-- the values of a tuple, and those of a stream
abbrev pub IsLegibleTuple : Tuple Item → Type 0
IsLegibleTuple tuple = AllByRecursion AreLegible tuple

abbrev pub AreLegibleTuples : List (Tuple Item) → Type 0
AreLegibleTuples tuples = AllByRecursion IsLegibleTuple tuples

-- # Lists of pairs

pub zip_firsts : {A B : Type 0} (P : A → Type 0) (xs : List A) (ys : List B) → AllByRecursion P xs → AllByRecursion (λ (p : A × B). P p.0) (zip xs ys)
zip_firsts P [] ys h = tt
zip_firsts P (x ∷ xs) [] h = tt
zip_firsts P (x ∷ xs) (y ∷ ys) h = (h.0, zip_firsts P xs ys h.1)

pub zip_seconds : {A B : Type 0} (Q : B → Type 0) (xs : List A) (ys : List B) → AllByRecursion Q ys → AllByRecursion (λ (p : A × B). Q p.1) (zip xs ys)
zip_seconds Q [] ys h = tt
zip_seconds Q (x ∷ xs) [] h = tt
zip_seconds Q (x ∷ xs) (y ∷ ys) h = (h.0, zip_seconds Q xs ys h.1)

zip_both : {A B : Type 0} (P : A → Type 0) (Q : B → Type 0) (xs : List A) (ys : List B) → AllByRecursion P xs → AllByRecursion Q ys → AllByRecursion (λ (p : A × B). P p.0 × Q p.1) (zip xs ys)
zip_both P Q [] ys h k = tt
zip_both P Q (x ∷ xs) [] h k = tt
zip_both P Q (x ∷ xs) (y ∷ ys) h k = ((h.0, k.0), zip_both P Q xs ys h.1 k.1)

flat_all : {A B : Type 0} (P : B → Type 0) (f : A → List B) (xs : List A) → AllByRecursion (λ x. AllByRecursion P (f x)) xs → AllByRecursion P (lists.flat_map f xs)
flat_all P f [] h = tt
flat_all P f (x ∷ xs) h = all_append P (f x) (lists.flat_map f xs) h.0 (flat_all P f xs h.1)

-- each list with one more element
extended_are : {A : Type 0} (P : A → Type 0) (rows : List (List A)) (last : List A) → AllByRecursion (AllByRecursion P) rows → AllByRecursion P last → AllByRecursion (AllByRecursion P) (extended rows last)
extended_are P [] last h k = tt
extended_are P (row ∷ rows) [] h k = tt
extended_are P (row ∷ rows) (x ∷ last) h k = (all_append P row (x ∷ []) h.0 (k.0, tt), extended_are P rows last h.1 k.1)

pub bound_are : (tuples : List (Tuple Item)) (values : List (List Item)) → AreLegibleTuples tuples → AllByRecursion AreLegible values → AreLegibleTuples (bound tuples values)
bound_are tuples values h k = extended_are AreLegible tuples values h k

pub satisfying_are : {A : Type 0} (P : A → Type 0) (xs : List A) (tests : List Bool) → AllByRecursion P xs → AllByRecursion P (satisfying xs tests)
satisfying_are {A} P xs tests h =
    all_map P (λ (p : A × Bool). p.0) (filter (λ (p : A × Bool). p.1) (zip xs tests)) (all_filter (λ (p : A × Bool). P p.0) (λ (p : A × Bool). p.1) (zip xs tests) (zip_firsts P xs tests h))

-- # for and count

each_are : (at : Bool) (tuple : Tuple Item) (n : ℕ) (xs : List Item) → IsLegibleTuple tuple → AreLegible xs
    → AreLegibleTuples (map (λ (p : ℕ × Item). tuple ++ item_values Atom at p.0 p.1) (enumerate_from n xs))
each_are at tuple n [] h k = tt
each_are at tuple n (x ∷ xs) h k = (all_append AreLegible tuple (item_values Atom at n x) h (values_are at), each_are at tuple (n + 1) xs h k.1)
  where
    values_are : (at : Bool) → IsLegibleTuple (item_values Atom at n x)
    values_are true = ((k.0, tt), ((tt, tt), tt))
    values_are false = ((k.0, tt), tt)

empty_are : (at : Bool) → IsLegibleTuple (empty_values Atom at)
empty_are true = (tt, ((tt, tt), tt))
empty_are false = (tt, tt)

items_are : (allows at : Bool) (tuple : Tuple Item) (xs : List Item) → IsLegibleTuple tuple → AreLegible xs → AreLegibleTuples (with_items Atom allows at tuple xs)
items_are false at tuple xs h k = each_are at tuple 1 xs h k
items_are true at tuple [] h k = (all_append AreLegible tuple (empty_values Atom at) h (empty_are at), tt)
items_are true at tuple (x ∷ xs) h k = each_are at tuple 1 (x ∷ xs) h k

pub expanded_are : (allows at : Bool) (tuples : List (Tuple Item)) (values : List (List Item)) → AreLegibleTuples tuples → AllByRecursion AreLegible values
    → AreLegibleTuples (expanded Atom allows at tuples values)
expanded_are allows at [] values h k = tt
expanded_are allows at (t ∷ ts) [] h k = tt
expanded_are allows at (t ∷ ts) (xs ∷ values) h k =
    all_append IsLegibleTuple (with_items Atom allows at t xs) (expanded Atom allows at ts values) (items_are allows at t xs h.0 k.0) (expanded_are allows at ts values h.1 k.1)

numbered_from : (n : ℕ) (tuples : List (Tuple Item)) → AreLegibleTuples tuples
    → AreLegibleTuples (map (λ (p : ℕ × Tuple Item). p.1 ++ (Atom (Integer (pos p.0)) ∷ []) ∷ []) (enumerate_from n tuples))
numbered_from n [] h = tt
numbered_from n (t ∷ ts) h = (all_append AreLegible t ((Atom (Integer (pos n)) ∷ []) ∷ []) h.0 ((tt, tt), tt), numbered_from (n + 1) ts h.1)

pub numbered_are : (tuples : List (Tuple Item)) → AreLegibleTuples tuples → AreLegibleTuples (numbered Atom tuples)
numbered_are tuples h = numbered_from 1 tuples h

-- # group by

-- a key's text holds characters
abbrev IsLegibleKey : Option Atomic → Type 0
IsLegibleKey None = Unit {0}
IsLegibleKey (Some a) = IsLegible a

string_legible : (a : Atomic) → IsLegible a → IsLegible (as_string a)
string_legible (Integer n) h = h
string_legible (Decimal m) h = h
string_legible (String t) h = h
string_legible (Boolean b) h = h
string_legible (Untyped t) h = h

key_legible : (as' : List Atomic) → AllByRecursion IsLegible as' → IsLegibleKey (key_value as')
key_legible [] h = tt
key_legible (a ∷ more) h = string_legible a h.0

keys_legible : (column : List (List Atomic)) → AllByRecursion (AllByRecursion IsLegible) column → AllByRecursion IsLegibleKey (map key_value column)
keys_legible column h = all_map IsLegibleKey key_value column (all_weaker (AllByRecursion IsLegible) _ key_legible column h)

-- from the keys of each specification those of each tuple
rows_are : {K : Type 0} (P : K → Type 0) (rows : List (List K)) (columns : List (List K)) → AllByRecursion (AllByRecursion P) rows → AllByRecursion (AllByRecursion P) columns → AllByRecursion (AllByRecursion P) (fold extended rows columns)
rows_are P rows [] h k = h
rows_are P rows (column ∷ columns) h k = rows_are P (extended rows column) columns (extended_are P rows column h k.0) k.1

no_keys : {X K : Type 0} (P : K → Type 0) (xs : List X) → AllByRecursion (AllByRecursion P) (map (λ (x : X). (let none : List K = [] in none)) xs)
no_keys P [] = tt
no_keys P (x ∷ xs) = (tt, no_keys P xs)

-- a tuple and its keys
abbrev IsLegibleKeyed : Keyed Item → Type 0
IsLegibleKeyed p = IsLegibleTuple p.0 × AllByRecursion IsLegibleKey p.1

at_slot : (slot : ℕ) (tuple : Tuple Item) → IsLegibleTuple tuple → AreLegible (value_at slot tuple)
at_slot slot [] h = tt
at_slot zero (v ∷ tuple) h = h.0
at_slot (suc slot) (v ∷ tuple) h = at_slot slot tuple h.1

-- the key of a slot, where it has one
abbrev MayBeKey : Option (Option Atomic) → Type 0
MayBeKey None = Unit {0}
MayBeKey (Some key) = IsLegibleKey key

get_key : (keys : List (Option Atomic)) (i : ℕ) → AllByRecursion IsLegibleKey keys → MayBeKey (slice_get keys i)
get_key [] i h = tt
get_key (k ∷ keys) zero h = h.0
get_key (k ∷ keys) (suc i) h = get_key keys i h.1

key_at : (slots : List ℕ) (keys : List (Option Atomic)) (slot : ℕ) → AllByRecursion IsLegibleKey keys → MayBeKey (slot_key slots keys slot)
key_at slots keys slot h = by_place (position (λ s. s == slot) slots)
  where
    by_place : (o : Option ℕ) → MayBeKey (option_and_then (slice_get keys) o)
    by_place None = tt
    by_place (Some i) = get_key keys i h

items_of_key : (key : Option Atomic) → IsLegibleKey key → AreLegible (key_items Atom key)
items_of_key None h = tt
items_of_key (Some a) h = (h, tt)

value_of_group : (key : Option (Option Atomic)) (slot : ℕ) (group : List (Keyed Item)) → MayBeKey key → AllByRecursion IsLegibleKeyed group → AreLegible (grouped_value Atom key slot group)
value_of_group (Some key) slot group h k = items_of_key key h
value_of_group None slot group h k =
    flat_all IsLegibleItem (λ (p : Keyed Item). value_at slot p.0) group (all_weaker IsLegibleKeyed _ (λ p legible. at_slot slot p.0 legible.0) group k)

tuple_of_group : (slots : List ℕ) (group : List (Keyed Item)) → AllByRecursion IsLegibleKeyed group → IsLegibleTuple (grouped_tuple Atom slots group)
tuple_of_group slots [] h = tt
tuple_of_group slots (first ∷ others) h =
    all_map AreLegible (λ (slot : ℕ). grouped_value Atom (slot_key slots first.1 slot) slot (first ∷ others)) (range_with_len 0 (length first.0))
    (all_of (λ (slot : ℕ). AreLegible (grouped_value Atom (slot_key slots first.1 slot) slot (first ∷ others)))
    (λ slot. value_of_group (slot_key slots first.1 slot) slot (first ∷ others) (key_at slots first.1 slot h.0.1) h) (range_with_len 0 (length first.0)))

groups_are : {A : Type 0} (P : A → Type 0) (same : A → A → Bool) (xs : List A) → AllByRecursion P xs → AllByRecursion (AllByRecursion P) (groups same xs)
groups_are P same xs h =
    all_map (AllByRecursion P) (λ x. filter (same x) xs) (firsts same xs) (all_of (λ x. AllByRecursion P (filter (same x) xs)) (λ x. all_filter P (same x) xs h) (firsts same xs))

pub grouped_are : (slots : List ℕ) (tuples : List (Tuple Item)) (columns : List (List (List Atomic))) → AreLegibleTuples tuples → AllByRecursion (AllByRecursion (AllByRecursion IsLegible)) columns
    → IfOk (grouped Atom slots tuples columns) AreLegibleTuples
grouped_are slots tuples columns h k =
    let keys : List (List (Option Atomic)) = map (map key_value) columns in
    let rows : List (List (Option Atomic)) = key_rows tuples keys in
    let columns_are : AllByRecursion (AllByRecursion IsLegibleKey) keys =
    all_map (AllByRecursion IsLegibleKey) (map key_value) columns (all_weaker (AllByRecursion (AllByRecursion IsLegible)) _ keys_legible columns k) in
    let keyed : AllByRecursion IsLegibleKeyed (zip tuples rows) =
    zip_both IsLegibleTuple (AllByRecursion IsLegibleKey) tuples rows h (rows_are IsLegibleKey _ keys (no_keys IsLegibleKey tuples) columns_are) in
    either_holds AreLegibleTuples (are_keys columns) (Ok (map (grouped_tuple Atom slots) (groups same_keys (zip tuples rows)))) (Err XPTY0004)
    (all_map IsLegibleTuple (grouped_tuple Atom slots) (groups same_keys (zip tuples rows))
    (all_weaker (AllByRecursion IsLegibleKeyed) _ (tuple_of_group slots) (groups same_keys (zip tuples rows)) (groups_are IsLegibleKeyed same_keys (zip tuples rows) keyed)))
    tt

-- the values of slots, atomized
pub columns_are : (trees : List Tree) → AreTrees trees → (slots : List ℕ) (tuples : List (Tuple Item)) → AreLegibleTuples tuples
    → AllByRecursion (AllByRecursion (AllByRecursion IsLegible)) (map (Forms.slot_values trees tuples) slots)
columns_are trees are slots tuples h =
    all_map (AllByRecursion (AllByRecursion IsLegible)) (Forms.slot_values trees tuples) slots
    (all_of (λ slot. AllByRecursion (AllByRecursion IsLegible) (Forms.slot_values trees tuples slot)) (λ slot.
    all_map (AllByRecursion IsLegible) (λ t. atomized trees (value_at slot t)) tuples
    (all_weaker IsLegibleTuple _ (λ t legible. atoms_legible trees are (value_at slot t) (at_slot slot t legible)) tuples h)) slots)

-- # order by

inserted_are : {A : Type 0} (P : A → Type 0) (cmp : A → A → Ordering) (x : A) (ys : List A) → P x → AllByRecursion P ys → AllByRecursion P (inserted cmp x ys)
inserted_are P cmp x [] h k = (h, tt)
inserted_are P cmp x (y ∷ ys) h k = by_test (is_lt (cmp y x)) (inserted_are P cmp x ys h k.1)
  where
    by_test : (b : Bool) → AllByRecursion P (inserted cmp x ys) → AllByRecursion P (if b then y ∷ inserted cmp x ys else x ∷ y ∷ ys)
    by_test true rest = (k.0, rest)
    by_test false rest = (h, k)

sorted_are : {A : Type 0} (P : A → Type 0) (cmp : A → A → Ordering) (xs : List A) → AllByRecursion P xs → AllByRecursion P (sorted cmp xs)
sorted_are P cmp [] h = tt
sorted_are P cmp (x ∷ xs) h = inserted_are P cmp x (sorted cmp xs) h.0 (sorted_are P cmp xs h.1)

-- a tuple with what it is ordered by
abbrev Sortable : Type 0
Sortable = Tuple Item × List Key

pub ordered_are : (rules : List OrderRule) (tuples : List (Tuple Item)) (columns : List (List (List Atomic))) → AreLegibleTuples tuples → IfOk (ordered rules tuples columns) AreLegibleTuples
ordered_are rules tuples columns h =
    let rows : List (List Key) = key_rows tuples (map sort_keys columns) in
    let pairs : List Sortable = zip tuples rows in
    let cmp : Sortable → Sortable → Ordering = λ p q. keys_cmp rules p.1 q.1 in
    either_holds AreLegibleTuples (list_all can_order columns) (Ok (map (λ (p : Sortable). p.0) (sorted cmp pairs))) (Err XPTY0004)
    (all_map IsLegibleTuple (λ (p : Sortable). p.0) (sorted cmp pairs) (sorted_are (λ (p : Sortable). IsLegibleTuple p.0) cmp pairs (zip_firsts IsLegibleTuple tuples rows h)))
    tt
