-- Tuple streams, the meaning of the clauses of a FLWOR expression (XQuery 3.1, 3.12).
-- A tuple binds the variables of one FLWOR expression: it has their values, one to a slot, in the
-- order in which its clauses bind them. A stream is a list of tuples. Items are of any type X, in
-- which `atom` gives the atomic values.
use Rattle.std.specs.Prelude.{ℕ, pos, List, [], ◌∷◌, ◌++◌, map, filter, fold, Bool, true, false, not, ◌&&◌, ◌||◌, ◌==◌, Option, Some, None, Result, Ok, Err, if◌then◌else◌, length, slice_index_or, slice_get, position, option_and_then}
use Rattle.std.specs.List.{flat_map, list_all, enumerate_from, range_with_len, zip}
use Rattle.std.specs.declared.cmp.Ordering.{Ordering}
use Rattle.std.specs.declared.cmp.Ordering.TheVariants.{Equal}
use Rattle.std.specs.Ordering.{is_lt, bool_cmp, ordering_then}
use Rattle.std.specs.Cmp.Lexicographic.{pointwise}
use Rattle.xq_atoms.specs.declared.refusals.Code.{Code}
use Rattle.xq_atoms.specs.declared.refusals.Code.TheVariants.{XPTY0004}
use Rattle.xq_atoms.specs.Atom.{Atomic, Integer, String, Untyped}
use Rattle.xq_atoms.specs.Compare.{Key, Nothing, key, key_eq, key_cmp, of_one_kind}

-- the value of each slot
abbrev pub Tuple : Type 0 → Type 0
Tuple X = List (List X)

-- the value of a slot
abbrev pub value_at : {X : Type 0} → ℕ → Tuple X → List X
value_at slot tuple = slice_index_or tuple slot []

-- each list with one more element at its end
abbrev pub extended : {A : Type 0} → List (List A) → List A → List (List A)
extended lists last = map (λ p. p.0 ++ p.1 ∷ []) (zip lists last)

-- 3.12.3, let: each tuple with the value that its binding has there
abbrev pub bound : {X : Type 0} → List (Tuple X) → List (List X) → List (Tuple X)
bound tuples values = extended tuples values

-- 3.12.5, where: the tuples at which the condition holds
abbrev pub satisfying : {A : Type 0} → List A → List Bool → List A
satisfying tuples tests = map (λ p. p.0) (filter (λ p. p.1) (zip tuples tests))

module _ {X : Type 0} (atom : Atomic → X) where
  -- the n-th item, and its position where that is asked for
  abbrev pub item_values : Bool → ℕ → X → Tuple X
  item_values at n x = (x ∷ []) ∷ (if at then (atom (Integer (pos n)) ∷ []) ∷ [] else [])

  -- the tuple once for each item
  abbrev pub with_each : Bool → Tuple X → List X → List (Tuple X)
  with_each at tuple items = map (λ p. tuple ++ item_values at p.0 p.1) (enumerate_from 1 items)

  -- the empty sequence, and 0 for its position where that is asked for
  abbrev pub empty_values : Bool → Tuple X
  empty_values at = [] ∷ (if at then (atom (Integer (pos 0)) ∷ []) ∷ [] else [])

  -- the tuple once for each item, or once, with the empty sequence, where there is none
  abbrev pub with_each_or_empty : Bool → Tuple X → List X → List (Tuple X)
  with_each_or_empty at tuple [] = (tuple ++ empty_values at) ∷ []
  with_each_or_empty at tuple (x ∷ items) = with_each at tuple (x ∷ items)

  -- the tuple once for each item; where the empty sequence is allowed, never none
  abbrev pub with_items : Bool → Bool → Tuple X → List X → List (Tuple X)
  with_items allows at tuple items =
      if allows then with_each_or_empty at tuple items else with_each at tuple items

  -- 3.12.2, for: each tuple once for each item that its binding has there, in order; where it
  -- allows the empty sequence, a tuple whose binding has no item once
  abbrev pub expanded : Bool → Bool → List (Tuple X) → List (List X) → List (Tuple X)
  expanded allows at tuples lists = flat_map (λ p. with_items allows at p.0 p.1) (zip tuples lists)

  -- 3.12.6, count: each tuple with its number
  abbrev pub numbered : List (Tuple X) → List (Tuple X)
  numbered tuples =
      map (λ p. p.1 ++ (atom (Integer (pos p.0)) ∷ []) ∷ []) (enumerate_from 1 tuples)

-- Keys of groups and orders (3.12.7 and 3.12.8): at most one atomic value, and an untyped one is
-- taken as a string

-- the values are at most one
abbrev pub is_key : List Atomic → Bool
is_key [] = true
is_key (a ∷ []) = true
is_key (a ∷ b ∷ more) = false

-- an untyped value as a string, and any other as it is
abbrev pub as_string : Atomic → Atomic
as_string (Untyped t) = String t
as_string a = a

-- the first of the values, as a string where it is untyped, or none where there are none
abbrev pub key_value : List Atomic → Option Atomic
key_value [] = None
key_value (a ∷ more) = Some (as_string a)

-- what keys are compared by
abbrev pub comparison_key : Option Atomic → Key
comparison_key None = Nothing
comparison_key (Some a) = key a

-- what each of the keys is compared by
abbrev pub comparison_keys : List (Option Atomic) → List Key
comparison_keys keys = map comparison_key keys

-- by specification and tuple: each is a key
abbrev pub are_keys : List (List (List Atomic)) → Bool
are_keys columns = list_all (λ column. list_all is_key column) columns

-- from the keys by specification, those of each tuple
abbrev pub key_rows : {X K : Type 0} → List X → List (List K) → List (List K)
key_rows tuples columns = fold extended (map (λ _. []) tuples) columns

-- 3.12.7, group by

-- the elements that no earlier one equals
abbrev pub firsts : {A : Type 0} → (A → A → Bool) → List A → List A
firsts same [] = []
firsts same (x ∷ xs) = x ∷ filter (λ y. not (same x y)) (firsts same xs)

-- the filters of the list by equality with an element, by first appearance
abbrev pub groups : {A : Type 0} → (A → A → Bool) → List A → List (List A)
groups same xs = map (λ x. filter (same x) xs) (firsts same xs)

-- a tuple with its keys
abbrev pub Keyed : Type 0 → Type 0
Keyed X = Tuple X × List (Option Atomic)

-- each key equals its counterpart
abbrev pub same_keys : {X : Type 0} → Keyed X → Keyed X → Bool
same_keys p q = pointwise key_eq (comparison_keys p.1) (comparison_keys q.1)

-- the key of a slot, where it is a grouping variable's
abbrev pub slot_key : List ℕ → List (Option Atomic) → ℕ → Option (Option Atomic)
slot_key slots keys slot = option_and_then (slice_get keys) (position (λ s. s == slot) slots)

module _ {X : Type 0} (atom : Atomic → X) where
  -- the items of a key: none, or its atomic value
  abbrev pub key_items : Option Atomic → List X
  key_items None = []
  key_items (Some a) = atom a ∷ []

  -- a grouping variable has its key; any other, its values one after another
  abbrev pub grouped_value : Option (Option Atomic) → ℕ → List (Keyed X) → List X
  grouped_value (Some key) slot group = key_items key
  grouped_value None slot group = flat_map (λ p. value_at slot p.0) group

  -- the tuple of a group, whose keys are those of its first tuple
  abbrev pub grouped_tuple : List ℕ → List (Keyed X) → Tuple X
  grouped_tuple slots [] = []
  grouped_tuple slots (first ∷ others) = map
      (λ slot. grouped_value (slot_key slots first.1 slot) slot (first ∷ others))
      (range_with_len 0 (length first.0))

  -- a tuple for each group, where these slots are those of the grouping variables
  abbrev pub grouped : List ℕ → List (Tuple X) → List (List (List Atomic))
      → Result (List (Tuple X)) Code
  grouped slots tuples columns =
      if are_keys columns
      then Ok (map (grouped_tuple slots)
      (groups same_keys (zip tuples (key_rows tuples (map (map key_value) columns)))))
      else Err XPTY0004

-- 3.12.8, order by

-- how one specification orders
pub record OrderRule : Type 0 where
  pub descending : Bool
  pub greatest : Bool

-- the key is the empty one
abbrev pub is_nothing : Key → Bool
is_nothing Nothing = true
is_nothing k = false

-- by value; the empty key is least, or greatest
abbrev pub placed_cmp : Bool → Key → Key → Ordering
placed_cmp false j k = key_cmp j k
placed_cmp true j k = ordering_then (bool_cmp (is_nothing j) (is_nothing k)) (key_cmp j k)

-- descending is the reverse
abbrev pub rule_cmp : OrderRule → Key → Key → Ordering
rule_cmp rule j k = if rule.descending then placed_cmp rule.greatest k j
    else placed_cmp rule.greatest j k

-- the first of the keys, or the empty key where there are none
abbrev pub first_key : List Key → Key
first_key [] = Nothing
first_key (k ∷ ks) = k

-- the keys after the first
abbrev pub later_keys : List Key → List Key
later_keys [] = []
later_keys (k ∷ ks) = ks

-- by the first specification that tells them apart
abbrev pub keys_cmp : List OrderRule → List Key → List Key → Ordering
keys_cmp [] js ks = Equal
keys_cmp (rule ∷ rules) js ks = ordering_then (rule_cmp rule (first_key js) (first_key ks))
    (keys_cmp rules (later_keys js) (later_keys ks))

-- before the elements that are not less
abbrev pub inserted : {A : Type 0} → (A → A → Ordering) → A → List A → List A
inserted cmp x [] = x ∷ []
inserted cmp x (y ∷ ys) = if is_lt (cmp y x) then y ∷ inserted cmp x ys else x ∷ y ∷ ys

-- the one arrangement of the list that ascends and keeps the order of equals
abbrev pub sorted : {A : Type 0} → (A → A → Ordering) → List A → List A
sorted cmp [] = []
sorted cmp (x ∷ xs) = inserted cmp x (sorted cmp xs)

-- those that are not empty are all numbers, all strings or all booleans
abbrev pub are_of_one_kind : List Key → Bool
are_of_one_kind [] = true
are_of_one_kind (Nothing ∷ ks) = are_of_one_kind ks
are_of_one_kind (k ∷ ks) = list_all (λ j. is_nothing j || of_one_kind k j) ks

-- from the values of one specification, what each tuple is ordered by
abbrev pub sort_keys : List (List Atomic) → List Key
sort_keys column = map (λ values. comparison_key (key_value values)) column

-- what one specification may order by
abbrev pub can_order : List (List Atomic) → Bool
can_order column = list_all is_key column && are_of_one_kind (sort_keys column)

-- the stream in the order of its keys, left to right
abbrev pub ordered : {X : Type 0} → List OrderRule → List (Tuple X) → List (List (List Atomic))
    → Result (List (Tuple X)) Code
ordered rules tuples columns =
    if list_all can_order columns
    then Ok (map (λ p. p.0)
    (sorted (λ p q. keys_cmp rules p.1 q.1)
    (zip tuples (key_rows tuples (map sort_keys columns)))))
    else Err XPTY0004
