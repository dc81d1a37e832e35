-- How many slots the tuples of a stream have, clause by clause.
use Rattle.std.proofs.Common.{◌≡◌, ℕ, ◌+◌, List, [], ◌∷◌, ◌++◌, map, length, Bool, true, false, Ok, Err, refl, sym, ap, ◌∙◌, subst, if◌then◌else◌}
use Rattle.std.specs.Prelude.{pos, filter, not, nat_eq, ◌&&◌}
use Rattle.std.specs.List.{AllByRecursion, zip, enumerate_from, list_all}
use Rattle.std.specs.declared.cmp.Ordering.{Ordering}
use Rattle.std.specs.Ordering.{is_lt}
use Rattle.std.specs.Cmp.Lexicographic.{pointwise}
use Rattle.std.proofs.lemmas.List.{length-append, append_assoc}
use Rattle.std.proofs.lemmas.List.Concat.{flat_map-cons}
use Rattle.std.proofs.lemmas.Cmp.{int_eq_equiv}
use Rattle.std.proofs.lemmas.Slice.Eq.{bytes_eq-Decides}
use Rattle.std.proofs.lemmas.Bool.{false≢true}
use Rattle.std.proofs.lemmas.List.FromFn.{length-map-range_with_len}
use Rattle.xq_atoms.specs.declared.refusals.Code.{Code}
use Rattle.xq_atoms.specs.declared.refusals.Code.TheVariants.{XPTY0004}
use Rattle.xq_expressions.specs.declared.operators.AllowingEmpty.{AllowingEmpty}
use Rattle.xq_expressions.specs.declared.operators.OrderModifier.{OrderModifier}
use Rattle.xq_atoms.specs.Compare.{Key, Nothing, Number, Characters, Truth, key_eq}
use Rattle.xq_trees.specs.Tree.{Tree}
use Rattle.xq_trees.specs.Tuples.{Tuple, Keyed, OrderRule, expanded, with_items, empty_values, item_values, bound, satisfying, grouped, grouped_tuple, grouped_value, slot_key, same_keys, comparison_keys, groups, firsts, are_keys, key_rows, key_value, ordered, can_order, keys_cmp, sort_keys, sorted, inserted}
use Rattle.xq_atoms.specs.Atom.{Atomic, Integer}
use Rattle.xq_meaning.specs.Items.{Item, Atom}
use Rattle.xq_meaning.specs.Doing.{Doing, Outcome, go_on, give, judged, for_each}
use Rattle.xq_meaning.specs.Forms
use Rattle.xq_plan.specs.private.Plans.{AreWide, GivesWide}
use Rattle.xq_trees.proofs.Lists.{all_append, all_filter}

-- what comes of a value
then_wide : {A : Type 0} (n : ℕ) (o : Outcome A) (k : A → Doing (List (Tuple Item))) →
    ((x : A) (f : List Tree) → GivesWide n (k x f)) → GivesWide n (go_on o k)
then_wide n (Ok x, f) k h = h x f
then_wide n (Err code, f) k h = tt

-- # let, where

bound_wide : (n : ℕ) (tuples : List (Tuple Item)) (values : List (List Item)) → AreWide n tuples →
    AreWide (n + 1) (bound tuples values)
bound_wide n [] values h = tt
bound_wide n (t ∷ ts) [] h = tt
bound_wide n (t ∷ ts) (v ∷ vs) h =
    (length-append t (v ∷ []) ∙ ap (λ k. k + 1) h.0, bound_wide n ts vs h.1)

kept_if : (n : ℕ) (b : Bool) (t : Tuple Item) (ps : List (Tuple Item × Bool)) → length t ≡ n →
    AreWide n (map (λ p. p.0) (filter (λ p. p.1) ps)) →
    AreWide n (map (λ p. p.0) (filter (λ p. p.1) ((t, b) ∷ ps)))
kept_if n true t ps h k = (h, k)
kept_if n false t ps h k = k

kept_wide : (n : ℕ) (tuples : List (Tuple Item)) (tests : List Bool) → AreWide n tuples →
    AreWide n (satisfying tuples tests)
kept_wide n [] tests h = tt
kept_wide n (t ∷ ts) [] h = tt
kept_wide n (t ∷ ts) (b ∷ bs) h = kept_if n b t (zip ts bs) h.0 (kept_wide n ts bs h.1)

-- # for

abbrev pub more_slots : Bool → ℕ
more_slots true = 2
more_slots false = 1

item_slots : (at : Bool) (k : ℕ) (x : Item) → length (item_values Atom at k x) ≡ more_slots at
item_slots true k x = refl
item_slots false k x = refl

each_wide : (n : ℕ) (at : Bool) (t : Tuple Item) (k : ℕ) (xs : List Item) → length t ≡ n →
    AreWide (n + more_slots at) (map (λ (p : ℕ × Item). t ++ item_values Atom at p.0 p.1) (enumerate_from k xs))
each_wide n at t k [] h = tt
each_wide n at t k (x ∷ xs) h =
    (length-append t (item_values Atom at k x) ∙ (λ i. h i + item_slots at k x i), each_wide n at t (k + 1) xs h)

empty_slots : (at : Bool) → length (empty_values Atom at) ≡ more_slots at
empty_slots true = refl
empty_slots false = refl

items_wide : (n : ℕ) (allows at : Bool) (t : Tuple Item) (xs : List Item) → length t ≡ n →
    AreWide (n + more_slots at) (with_items Atom allows at t xs)
items_wide n true at t [] h =
    (length-append t (empty_values Atom at) ∙ (λ i. h i + empty_slots at i), tt)
items_wide n true at t (x ∷ xs) h = each_wide n at t 1 (x ∷ xs) h
items_wide n false at t xs h = each_wide n at t 1 xs h

expanded_wide : (n : ℕ) (allows at : Bool) (tuples : List (Tuple Item)) (lists : List (List Item)) → AreWide n tuples →
    AreWide (n + more_slots at) (expanded Atom allows at tuples lists)
expanded_wide n allows at [] lists h = tt
expanded_wide n allows at (t ∷ ts) [] h = tt
expanded_wide n allows at (t ∷ ts) (xs ∷ xss) h =
    subst (AreWide (n + more_slots at)) (sym (flat_map-cons (λ (p : Tuple Item × List Item). with_items Atom allows at p.0 p.1) (t, xs) (zip ts xss)))
    (all_append (λ t. length t ≡ n + more_slots at) (with_items Atom allows at t xs) (expanded Atom allows at ts xss) (items_wide n allows at t xs h.0) (expanded_wide n allows at ts xss h.1))

-- # count

numbered_from : (n k : ℕ) (tuples : List (Tuple Item)) → AreWide n tuples →
    AreWide (n + 1) (map (λ (p : ℕ × Tuple Item). p.1 ++ (Atom (Integer (pos p.0)) ∷ []) ∷ []) (enumerate_from k tuples))
numbered_from n k [] h = tt
numbered_from n k (t ∷ ts) h =
    (length-append t ((Atom (Integer (pos k)) ∷ []) ∷ []) ∙ ap (λ m. m + 1) h.0, numbered_from n (k + 1) ts h.1)

-- # order by

first_wide : {A : Type 0} (n : ℕ) (tuples : List (Tuple Item)) (rows : List A) → AreWide n tuples →
    AllByRecursion (λ (p : Tuple Item × A). length p.0 ≡ n) (zip tuples rows)
first_wide n [] rows h = tt
first_wide n (t ∷ ts) [] h = tt
first_wide n (t ∷ ts) (r ∷ rs) h = (h.0, first_wide n ts rs h.1)

firsts_wide : {A : Type 0} (n : ℕ) (ps : List (Tuple Item × A)) → AllByRecursion (λ p. length p.0 ≡ n) ps →
    AreWide n (map (λ p. p.0) ps)
firsts_wide n [] h = tt
firsts_wide n (p ∷ ps) h = (h.0, firsts_wide n ps h.1)

inserted_if : {A : Type 0} (P : A → Type 0) (b : Bool) (x y : A) (xs ys : List A) → P x → P y →
    AllByRecursion P xs → AllByRecursion P ys → AllByRecursion P (if b then y ∷ xs else x ∷ y ∷ ys)
inserted_if P true x y xs ys px py h k = (py, h)
inserted_if P false x y xs ys px py h k = (px, (py, k))

inserted_all : {A : Type 0} (P : A → Type 0) (cmp : A → A → Ordering) (x : A) (ys : List A) → P x →
    AllByRecursion P ys → AllByRecursion P (inserted cmp x ys)
inserted_all P cmp x [] px h = (px, tt)
inserted_all P cmp x (y ∷ ys) px h =
    inserted_if P (is_lt (cmp y x)) x y (inserted cmp x ys) ys px h.0 (inserted_all P cmp x ys px h.1) h.1

sorted_all : {A : Type 0} (P : A → Type 0) (cmp : A → A → Ordering) (xs : List A) →
    AllByRecursion P xs → AllByRecursion P (sorted cmp xs)
sorted_all P cmp [] h = tt
sorted_all P cmp (x ∷ xs) h = inserted_all P cmp x (sorted cmp xs) h.0 (sorted_all P cmp xs h.1)

-- # group by: no group is empty

key_same : (k : Key) → key_eq k k ≡ true
key_same Nothing = refl
key_same (Number m) = int_eq_equiv.refl m
key_same (Characters t) = (bytes_eq-Decides t t).1 refl
key_same (Truth true) = refl
key_same (Truth false) = refl

keys_same : (ks : List Key) → pointwise key_eq ks ks ≡ true
keys_same [] = refl
keys_same (k ∷ ks) = (λ i. key_same k i && keys_same ks i)

-- the first has so many slots
abbrev HasFirst : ℕ → List (Keyed Item) → Type 0
HasFirst n [] = ⊥
HasFirst n (p ∷ ps) = length p.0 ≡ n

abbrev IsOfWidth : ℕ → Keyed Item → Type 0
IsOfWidth n p = length p.0 ≡ n

first_or : (n : ℕ) (b : Bool) (p : Keyed Item) (ps : List (Keyed Item)) → IsOfWidth n p → HasFirst n ps →
    HasFirst n (if b then p ∷ ps else ps)
first_or n true p ps h k = h
first_or n false p ps h k = k

first_is : (n : ℕ) (b : Bool) (p : Keyed Item) (ps : List (Keyed Item)) → IsOfWidth n p → b ≡ true →
    HasFirst n (if b then p ∷ ps else ps)
first_is n true p ps h e = h
first_is n false p ps h e = absurd (false≢true e)

in_own_group : (n : ℕ) (p : Keyed Item) (before after : List (Keyed Item)) → AllByRecursion (IsOfWidth n) before →
    IsOfWidth n p → HasFirst n (filter (same_keys p) (before ++ p ∷ after))
in_own_group n p [] after h k =
    first_is n (same_keys p p) p (filter (same_keys p) after) k (keys_same (comparison_keys p.1))
in_own_group n p (q ∷ qs) after h k =
    first_or n (same_keys p q) q (filter (same_keys p) (qs ++ p ∷ after)) h.0 (in_own_group n p qs after h.1 k)

in_own_groups : (n : ℕ) (before ps : List (Keyed Item)) → AllByRecursion (IsOfWidth n) before →
    AllByRecursion (IsOfWidth n) ps →
    AllByRecursion (λ p. HasFirst n (filter (same_keys p) (before ++ ps))) ps
in_own_groups n before [] h k = tt
in_own_groups n before (p ∷ ps) h k = (
  in_own_group n p before ps h k.0,
  subst (λ whole. AllByRecursion (λ q. HasFirst n (filter (same_keys q) whole)) ps) (append_assoc before (p ∷ []) ps)
      (in_own_groups n (before ++ p ∷ []) ps (all_append (IsOfWidth n) before (p ∷ []) h (k.0, tt)) k.1),
)

filter_if : {A : Type 0} (P : A → Type 0) (b : Bool) (x : A) (xs : List A) → P x → AllByRecursion P xs →
    AllByRecursion P (if b then x ∷ xs else xs)
filter_if P true x xs h k = (h, k)
filter_if P false x xs h k = k

firsts_all : {A : Type 0} (P : A → Type 0) (same : A → A → Bool) (xs : List A) → AllByRecursion P xs →
    AllByRecursion P (firsts same xs)
firsts_all P same [] h = tt
firsts_all P same (x ∷ xs) h =
    (h.0, all_filter P (λ y. not (same x y)) (firsts same xs) (firsts_all P same xs h.1))

tuple_wide : (n : ℕ) (slots : List ℕ) (group : List (Keyed Item)) → HasFirst n group →
    length (grouped_tuple Atom slots group) ≡ n
tuple_wide n slots [] h = absurd h
tuple_wide n slots (first ∷ others) h =
    length-map-range_with_len (λ slot. grouped_value Atom (slot_key slots first.1 slot) slot (first ∷ others)) 0 (length first.0) ∙ h

groups_wide : (n : ℕ) (slots : List ℕ) (whole xs : List (Keyed Item)) →
    AllByRecursion (λ p. HasFirst n (filter (same_keys p) whole)) xs →
    AreWide n (map (grouped_tuple Atom slots) (map (λ p. filter (same_keys p) whole) xs))
groups_wide n slots whole [] h = tt
groups_wide n slots whole (x ∷ xs) h =
    (tuple_wide n slots (filter (same_keys x) whole) h.0, groups_wide n slots whole xs h.1)

all_grouped_wide : (n : ℕ) (slots : List ℕ) (ps : List (Keyed Item)) → AllByRecursion (IsOfWidth n) ps →
    AreWide n (map (grouped_tuple Atom slots) (groups same_keys ps))
all_grouped_wide n slots ps h =
    groups_wide n slots ps (firsts same_keys ps)
    (firsts_all (λ p. HasFirst n (filter (same_keys p) ps)) same_keys ps (in_own_groups n [] ps tt h))

judged_wide : (n : ℕ) (b : Bool) (code : Code) (ts : List (Tuple Item)) (f : List Tree) → AreWide n ts →
    GivesWide n (judged (if b then Ok ts else Err code) f)
judged_wide n true code ts f h = h
judged_wide n false code ts f h = tt

-- # The clauses

module _ {E : Type 0} (n : ℕ) (frame_at : Tuple Item → Forms.Frame E) (tuples : List (Tuple Item)) (h : AreWide n tuples) where
  pub for_wide : (empties : AllowingEmpty) (at : Bool) (m : Forms.Meaning E) (f : List Tree) →
      GivesWide (n + more_slots at) (Forms.for_tuples empties at m frame_at tuples f)
  for_wide empties at m f =
      then_wide (n + more_slots at) (for_each (λ t. m (frame_at t)) tuples f) (λ lists. give (expanded Atom (Forms.allows empties) at tuples lists))
      (λ lists g. expanded_wide n (Forms.allows empties) at tuples lists h)

  pub let_wide : (m : Forms.Meaning E) (f : List Tree) → GivesWide (n + 1) (Forms.let_tuples m frame_at tuples f)
  let_wide m f =
      then_wide (n + 1) (for_each (λ t. m (frame_at t)) tuples f) (λ values. give (bound tuples values))
      (λ values g. bound_wide n tuples values h)

  pub where_wide : (m : Forms.Meaning E) (f : List Tree) → GivesWide n (Forms.where_tuples m frame_at tuples f)
  where_wide m f =
      then_wide n (for_each (λ t. Forms.tested m (frame_at t)) tuples f) (λ tests. give (satisfying tuples tests))
      (λ tests g. kept_wide n tuples tests h)

  pub order_wide : (specs : List (Forms.Meaning E × OrderModifier)) (f : List Tree) →
      GivesWide n (Forms.order_tuples specs frame_at tuples f)
  order_wide specs f =
      then_wide n (for_each (λ t. for_each (λ (s : Forms.Meaning E × OrderModifier). Forms.atoms_of s.0 (frame_at t)) specs) tuples f)
      (λ keys. judged (ordered (Forms.rules_of specs) tuples (Forms.key_columns (length specs) keys)))
      (λ keys g. ordered_wide (Forms.rules_of specs) (Forms.key_columns (length specs) keys) g)
    where
      ordered_wide : (rules : List OrderRule) (columns : List (List (List Atomic))) (g : List Tree) →
          GivesWide n (judged (ordered rules tuples columns) g)
      ordered_wide rules columns g =
          judged_wide n (list_all can_order columns) XPTY0004 _ g
          (firsts_wide n (sorted (λ p q. keys_cmp rules p.1 q.1) (zip tuples (key_rows tuples (map sort_keys columns))))
          (sorted_all (λ p. length p.0 ≡ n) (λ p q. keys_cmp rules p.1 q.1) (zip tuples (key_rows tuples (map sort_keys columns)))
          (first_wide n tuples (key_rows tuples (map sort_keys columns)) h)))

pub count_wide : (n : ℕ) (tuples : List (Tuple Item)) (f : List Tree) → AreWide n tuples →
    GivesWide (n + 1) (Forms.count_tuples tuples f)
count_wide n tuples f h = numbered_from n 1 tuples h

pub group_wide : (n : ℕ) (slots : List ℕ) (tuples : List (Tuple Item)) (f : List Tree) → AreWide n tuples →
    GivesWide n (Forms.group_tuples slots tuples f)
group_wide n slots tuples f h =
    grouped_wide (firsts nat_eq slots) (map (Forms.slot_values f tuples) (firsts nat_eq slots))
  where
    grouped_wide : (found : List ℕ) (columns : List (List (List Atomic))) → GivesWide n (judged (grouped Atom found tuples columns) f)
    grouped_wide found columns =
        judged_wide n (are_keys columns) XPTY0004 _ f
        (all_grouped_wide n found (zip tuples (key_rows tuples (map (map key_value) columns)))
        (first_wide n tuples (key_rows tuples (map (map key_value) columns)) h))
