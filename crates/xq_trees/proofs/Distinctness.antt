-- Rows that are sorted by name show whether their names are distinct, and sorted by place they are as they were.
use Rattle.std.proofs.Common.{◌≡◌, ℕ, zero, suc, ◌+◌, ◌<◌, List, [], ◌∷◌, length, get_or, map, Bool, true, false, ◌↔◌, ◌⊎◌, inl, inr, refl, sym, ◌∙◌, ap, subst, arith, nat_eq, ◌&&◌}
use Rattle.std.specs.Prelude.{IsPermutation, IsSortedByKey, Contains, IsTrue}
use Rattle.std.specs.List.{IsDistinct, IsAllAdjacentAnswer, AllByRecursion}
use Rattle.std.specs.List.Sorted.{IsNonDecreasingBy, IsNonDecreasing, IsStrictlyIncreasing, IsStrictlySortedBy}
use Rattle.std.specs.Str.{bytes_eq}
use Rattle.std.specs.Cmp.Lexicographic.{slice_cmp, texts_ties, as_long}
use Rattle.std.specs.Ordering.{is_lt, is_eq, nat_cmp, ordering_reverse}
use Rattle.std.specs.declared.cmp.Ordering.{Ordering}
use Rattle.std.specs.declared.cmp.Ordering.TheVariants.{Less, Equal, Greater}
use Rattle.std.proofs.lemmas.Bool.{ne_eqb, true≢false}
use Rattle.std.proofs.lemmas.Cmp.{nat_list_cmp_total}
use Rattle.std.proofs.lemmas.List.{get_or-map}
use Rattle.std.proofs.lemmas.List.Sorted.{IsPermutation-map, IsPermutation-sym, Contains-permutation}
use Rattle.std.proofs.lemmas.Map.Keys.{IsDistinct-from_apart, IsDistinct-head, IsDistinct-tail, IsDistinct-cons, IsDistinct-IsPermutation, IsStrictlyIncreasing-from_distinct, sorted_from_strictly_increasing, below_from_sorted, apart_from_distinct, sorted_from_all_adjacent, Less-from_sorted}
use Rattle.xq_trees.specs.declared.NodeRow.{NodeRow}
use Rattle.xq_trees.specs.private.Checks.{name_of, pre_of, rank_of}
use Rattle.xq_trees.proofs.Walks.{length-map}

-- # Back in document order

-- z is one of them
abbrev In : NodeRow → List NodeRow → Type 0
In z [] = ⊥
In z (x ∷ xs) = (x ≡ z) ⊎ In z xs

in_at : (xs : List NodeRow) (k : ℕ) (z : NodeRow) → k < length xs → get_or xs k z ≡ z → In z xs
in_at [] k z h e = absurd (omega arith)
in_at (x ∷ xs) zero z h e = inl e
in_at (x ∷ xs) (suc k) z h e = inr (in_at xs k z (omega arith) e)

contains : (xs : List NodeRow) (z : NodeRow) → In z xs → Contains xs z
contains [] z h = absurd h
contains (x ∷ xs) z h = elim h [ inl e ↦ (0, omega arith, e) | inr g ↦ (let w = contains xs z g in (suc w.0, omega (arith, w.1), w.2)) ]

moved : (xs ys : List NodeRow) (z : NodeRow) → IsPermutation xs ys → In z xs → In z ys
moved xs ys z p h = let w = Contains-permutation xs ys z p (contains xs z h) in in_at ys w.0 z w.1 w.2

-- their places come after n, and rise
abbrev After : ℕ → List NodeRow → Type 0
After n [] = Unit {0}
After n (x ∷ xs) = (n < x.pre) × After n xs

abbrev Rise : List NodeRow → Type 0
Rise [] = Unit {0}
Rise (x ∷ xs) = After x.pre xs × Rise xs

after_less : (m n : ℕ) (xs : List NodeRow) → m < n → After n xs → After m xs
after_less m n [] h g = tt
after_less m n (x ∷ xs) h g = (omega (arith, g.0), after_less m n xs h g.1)

after_in : (n : ℕ) (xs : List NodeRow) (z : NodeRow) → After n xs → In z xs → n < z.pre
after_in n [] z h g = absurd g
after_in n (x ∷ xs) z h g = elim g [ inl e ↦ subst (λ (y : NodeRow). n < y.pre) e h.0 | inr later ↦ after_in n xs z h.1 later ]

rise : (xs : List NodeRow) → IsStrictlyIncreasing (map pre_of xs) → Rise xs
rise [] h = tt
rise (x ∷ []) h = (tt, tt)
rise (x ∷ y ∷ ys) h =
    let lt : x.pre < y.pre = h 0 (let l = length-map pre_of ys in omega arith) in
    let later : IsStrictlyIncreasing (map pre_of (y ∷ ys)) = λ k l. (let e : suc k + 1 ≡ suc (k + 1) = omega arith in subst (λ n. get_or (map pre_of (y ∷ ys)) k 0 < get_or (map pre_of (x ∷ y ∷ ys)) n 0) e (h (suc k) (omega (arith, l)))) in
    let w = rise (y ∷ ys) later in
    ((lt, after_less x.pre y.pre ys lt w.0), w)

-- two rising lists of the same rows are one
one_list : (xs ys : List NodeRow) → Rise xs → Rise ys → ((z : NodeRow) → In z xs → In z ys) → ((z : NodeRow) → In z ys → In z xs) → ys ≡ xs
one_list [] [] a b f g = refl
one_list [] (y ∷ ys) a b f g = absurd (g y (inl refl))
one_list (x ∷ xs) [] a b f g = absurd (f x (inl refl))
one_list (x ∷ xs) (y ∷ ys) a b f g =
    let same : y ≡ x = elim (f x (inl refl)) [
      | inl e ↦ e
      | inr later ↦ elim (g y (inl refl)) [
        | inl e ↦ sym e
        | inr later_too ↦ absurd (omega (arith, after_in y.pre ys x b.0 later, after_in x.pre xs y a.0 later_too))
      ]
    ] in
    let p : y.pre ≡ x.pre = ap pre_of same in
    let right : (z : NodeRow) → In z xs → In z ys = λ z h. elim (f z (inr h)) [ inl e ↦ absurd (omega (arith, after_in x.pre xs z a.0 h, ap pre_of e, p)) | inr later ↦ later ] in
    let left : (z : NodeRow) → In z ys → In z xs = λ z h. elim (g z (inr h)) [ inl e ↦ absurd (omega (arith, after_in y.pre ys z b.0 h, ap pre_of e, p)) | inr later ↦ later ] in
    ap (λ (h : NodeRow). h ∷ ys) same ∙ ap (λ (t : List NodeRow). x ∷ t) (one_list xs ys a.1 b.1 right left)

apart_places : (ns : List ℕ) → IsStrictlyIncreasing ns → IsDistinct nat_eq ns
apart_places ns h = IsDistinct-from_apart nat_eq ns (λ i j d l b. ne_eqb _ _ (λ e. let lt = below_from_sorted ns i j d (sorted_from_strictly_increasing ns h) l b in omega (arith, e, lt)))

nat_eq-flips : (x y : ℕ) → nat_eq x y ≡ nat_eq y x
nat_eq-flips x y = grind arith

places_rise : (ys : List NodeRow) → IsNonDecreasingBy pre_of ys → IsNonDecreasing (map pre_of ys)
places_rise [] s i j d l b = absurd (omega arith)
places_rise (y ∷ ys) s i j d l b =
    let n = length-map pre_of (y ∷ ys) in
    let at_i : get_or (map pre_of (y ∷ ys)) i d ≡ pre_of (get_or (y ∷ ys) i y) = get_or-map pre_of (y ∷ ys) i y d (omega arith) in
    let at_j : get_or (map pre_of (y ∷ ys)) j d ≡ pre_of (get_or (y ∷ ys) j y) = get_or-map pre_of (y ∷ ys) j y d (omega arith) in
    omega (arith, at_i, at_j, s i j y l (omega arith))

pub back_in_place : (xs ys : List NodeRow) → IsStrictlyIncreasing (map pre_of xs) → IsPermutation xs ys → IsNonDecreasingBy pre_of ys → ys ≡ xs
back_in_place xs ys h p s =
    let up : IsNonDecreasing (map pre_of ys) = places_rise ys s in
    let apart : IsDistinct nat_eq (map pre_of ys) = IsDistinct-IsPermutation nat_eq nat_eq-flips (map pre_of xs) (map pre_of ys) (IsPermutation-map pre_of xs ys p) (apart_places (map pre_of xs) h) in
    one_list xs ys (rise xs h) (rise ys (IsStrictlyIncreasing-from_distinct (map pre_of ys) up apart)) (λ z. moved xs ys z p) (λ z. moved ys xs z (IsPermutation-sym xs ys p))

-- # What names in order show

abbrev cmp : List ℕ → List ℕ → Ordering
cmp = slice_cmp nat_cmp

equal_if_level : (o p : Ordering) → o ≡ ordering_reverse p → is_lt o ≡ false → is_lt p ≡ false → is_eq o ≡ true
equal_if_level Less p e h g = absurd (cc)
equal_if_level Equal p e h g = refl
equal_if_level Greater Less e h g = absurd (cc)
equal_if_level Greater Equal e h g = absurd (cc)
equal_if_level Greater Greater e h g = absurd (cc)

not_equal : (o : Ordering) → o ≡ Less → is_eq o ≡ false
not_equal o e = ap is_eq e

less_from : (o : Ordering) → true ≡ is_lt o → o ≡ Less
less_from Less e = refl
less_from Equal e = absurd (cc)
less_from Greater e = absurd (cc)

bytes_eq-flips : (xs ys : List ℕ) → bytes_eq xs ys ≡ bytes_eq ys xs
bytes_eq-flips [] [] = refl
bytes_eq-flips [] (y ∷ ys) = refl
bytes_eq-flips (x ∷ xs) [] = refl
bytes_eq-flips (x ∷ xs) (y ∷ ys) = rw (nat_eq-flips x y, bytes_eq-flips xs ys) refl

-- names are equal where their lengths and they are
equal_lengths : (xs ys : List ℕ) → bytes_eq (length xs ∷ xs) (length ys ∷ ys) ≡ bytes_eq xs ys
equal_lengths xs ys = go (bytes_eq xs ys) refl
  where
    none : (l : Bool) → (l && false) ≡ false
    none true = refl
    none false = refl

    go : (b : Bool) → bytes_eq xs ys ≡ b → (nat_eq (length xs) (length ys) && b) ≡ b
    go true e = (let same : length xs ≡ length ys = as_long nat_eq xs ys e in grind (arith, same))
    go false e = none (nat_eq (length xs) (length ys))

none_apart : IsDistinct bytes_eq []
unfolding IsDistinct
none_apart = tt

-- so ranks are distinct where names are
apart_ranks : (f g : NodeRow → List ℕ) → ((x y : NodeRow) → bytes_eq (f x) (f y) ≡ bytes_eq (g x) (g y)) → (zs : List NodeRow) → IsDistinct bytes_eq (map f zs) → IsDistinct bytes_eq (map g zs)
apart_ranks f g same [] h = none_apart
apart_ranks f g same (z ∷ zs) h =
    IsDistinct-cons bytes_eq (g z) (map g zs) (each zs (IsDistinct-head bytes_eq (f z) (map f zs) h)) (apart_ranks f g same zs (IsDistinct-tail bytes_eq (f z) (map f zs) h))
  where
    each : (ys : List NodeRow) → AllByRecursion (λ k. bytes_eq (f z) k ≡ false) (map f ys) → AllByRecursion (λ k. bytes_eq (g z) k ≡ false) (map g ys)
    each [] a = tt
    each (y ∷ ys) a = (sym (same z y) ∙ a.0, each ys a.1)

ranks_as_names : (x y : NodeRow) → bytes_eq (rank_of x) (rank_of y) ≡ bytes_eq (name_of x) (name_of y)
ranks_as_names x y = equal_lengths (name_of x) (name_of y)

with_names : (zs : List NodeRow) (r : Bool) → IsTrue r ↔ IsDistinct bytes_eq (map rank_of zs) → IsTrue r ↔ IsDistinct bytes_eq (map name_of zs)
with_names zs r h = (λ e. apart_ranks rank_of name_of ranks_as_names zs (h.0 e), λ d. h.1 (apart_ranks name_of rank_of (λ x y. sym (ranks_as_names x y)) zs d))

abbrev Ascends : List NodeRow → Bool → Type 0
Ascends zs r = IsAllAdjacentAnswer (λ (x y : NodeRow) (b : Bool). b ≡ is_lt (cmp (rank_of x) (rank_of y))) zs r

rank_at : (z : NodeRow) (zs : List NodeRow) (k : ℕ) → k < length (z ∷ zs) → get_or (map rank_of (z ∷ zs)) k [] ≡ rank_of (get_or (z ∷ zs) k z)
rank_at z zs k h = get_or-map rank_of (z ∷ zs) k z [] h

less_at : (zs : List NodeRow) → Ascends zs true → (k : ℕ) → k + 1 < length (map rank_of zs) → cmp (get_or (map rank_of zs) k []) (get_or (map rank_of zs) (k + 1) []) ≡ Less
less_at [] h k l = absurd (omega arith)
less_at (z ∷ zs) h k l =
    let b : k + 1 < length (z ∷ zs) = (let n = length-map rank_of (z ∷ zs) in omega arith) in
    ap (λ x. cmp x (get_or (map rank_of (z ∷ zs)) (k + 1) [])) (rank_at z zs k (omega arith))
    ∙ ap (λ x. cmp (rank_of (get_or (z ∷ zs) k z)) x) (rank_at z zs (k + 1) b)
    ∙ less_from _ (h k z b)

-- names that ascend are distinct
apart_if_ascending : (zs : List NodeRow) → Ascends zs true → IsDistinct bytes_eq (map rank_of zs)
apart_if_ascending zs h =
    let ns = map rank_of zs in
    let sorted : IsStrictlySortedBy cmp ns = sorted_from_all_adjacent nat_list_cmp_total ns [] (less_at zs h) in
    IsDistinct-from_apart bytes_eq ns (λ i j d l b. texts_ties (get_or ns i d) (get_or ns j d) ∙ not_equal _ (Less-from_sorted cmp ns i j d sorted l b))

pub distinct_at_once : (zs : List NodeRow) (r : Bool) → Ascends zs r → IsTrue r → IsTrue true ↔ IsDistinct bytes_eq (map name_of zs)
distinct_at_once zs true h e = with_names zs true (λ _. apart_if_ascending zs h, λ _. refl)
distinct_at_once zs false h e = absurd (true≢false (sym e))

-- names in order that do not ascend are not distinct
level_if_not : (zs : List NodeRow) → IsSortedByKey rank_of cmp zs → Ascends zs false → IsDistinct bytes_eq (map rank_of zs) → ⊥
level_if_not [] s h a = absurd (omega (arith, h.1))
level_if_not (z ∷ zs) s h a =
    let k = h.0 in
    let n = length-map rank_of (z ∷ zs) in
    let x = rank_of (get_or (z ∷ zs) k z) in
    let y = rank_of (get_or (z ∷ zs) (k + 1) z) in
    let level : is_eq (cmp x y) ≡ true = equal_if_level (cmp x y) (cmp y x) (nat_list_cmp_total.antisymm x y) (sym (h.2 z)) (s k z (omega arith) h.1) in
    let apart : bytes_eq (get_or (map rank_of (z ∷ zs)) k []) (get_or (map rank_of (z ∷ zs)) (k + 1) []) ≡ false = apart_from_distinct bytes_eq (map rank_of (z ∷ zs)) k (k + 1) [] a (omega arith) (omega (arith, h.1, n)) in
    let apart_names : bytes_eq x y ≡ false =
    ap (λ w. bytes_eq w y) (sym (rank_at z zs k (omega (arith, h.1))))
    ∙ ap (λ w. bytes_eq (get_or (map rank_of (z ∷ zs)) k []) w) (sym (rank_at z zs (k + 1) h.1))
    ∙ apart in
    absurd (true≢false (sym level ∙ sym (texts_ties x y) ∙ apart_names))

-- the rows zs are xs, sorted by name, and the answer is whether each name is less than the next
pub distinct_if_ascending : (xs zs : List NodeRow) → IsPermutation xs zs → IsSortedByKey rank_of cmp zs → (r : Bool) → Ascends zs r → IsTrue r ↔ IsDistinct bytes_eq (map name_of xs)
distinct_if_ascending xs zs p s true h = with_names xs true
    (λ e. IsDistinct-IsPermutation bytes_eq bytes_eq-flips (map rank_of zs) (map rank_of xs) (IsPermutation-sym (map rank_of xs) (map rank_of zs) (IsPermutation-map rank_of xs zs p)) (apart_if_ascending zs h), λ a. refl)
distinct_if_ascending xs zs p s false h = with_names xs false
    (λ e. absurd (true≢false (sym e)), λ a. absurd (level_if_not zs s h (IsDistinct-IsPermutation bytes_eq bytes_eq-flips (map rank_of xs) (map rank_of zs) (IsPermutation-map rank_of xs zs p) a)))
