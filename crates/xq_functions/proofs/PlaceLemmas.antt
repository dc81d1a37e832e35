-- Places in document order: lists that rise.
use Rattle.std.proofs.Common.{◌≡◌, ℕ, zero, suc, ◌+◌, ◌<◌, Result, Ok, Err, length, slice_index_or, is_ok, List, [], ◌∷◌, ◌++◌, map, Bool, true, false, ◌&&◌, ◌||◌, ◌==◌, cond, refl, sym, ap, ◌∙◌, arith, ⊎_elim}
use Rattle.std.specs.Prelude.{filter}
use Rattle.std.specs.List.{AllByRecursion, range_with_len, dedup, dedup_from}
use Rattle.std.specs.List.Sorted.{IsStrictlySortedBy, IsSorted, IsBinarySearchResult, IsSearchInRange}
use Rattle.std.proofs.lemmas.List.Sorted.{searchable_from_sorted}
use Rattle.std.specs.Ordering.{nat_cmp, ordering_then, ordering_reverse, is_eq, is_lt, is_gt, eq_by_cmp}
use Rattle.std.specs.Cmp.{IsTotalOrder, nat_cmp_is}
use Rattle.std.specs.declared.cmp.Ordering.TheVariants.{Less, Equal, Greater}
use Rattle.std.proofs.lemmas.Bool.{eqb-true, eq-eqb, false≢true, and_parts, and_from, and_right, or_cases, cases_lt, or_left, or_right}
use Rattle.xq_trees.specs.declared.items.Node.{Node as Spot}
use Rattle.xq_trees.specs.contracts.items.NodeOrd.TheImpl.Laws as law
use Rattle.xq_trees.specs.Rising.{document_order, AreRising}
use Rattle.xq_functions.specs.private.Places.{same_spot, is_among}
use Rattle.xq_trees.proofs.Lists.{all_append}

abbrev pub spot : ℕ → ℕ → Spot
spot tree pre = record { tree = tree; pre = pre }

pub not_true : (b : Bool) → (b ≡ true → ⊥) → b ≡ false
not_true true f = absurd (f refl)
not_true false f = refl

pub total : IsTotalOrder document_order
total = law.total-law

equal : (n : ℕ) → nat_cmp n n ≡ Equal
equal n = sym (nat_cmp_is n n Equal refl)

less : (m n : ℕ) → m < n → nat_cmp m n ≡ Less
less m n h = sym (nat_cmp_is m n Less h)

pub Less≢Equal : Less ≡ Equal → ⊥
Less≢Equal e = false≢true (ap is_eq e)

pub Greater≢Equal : Greater ≡ Equal → ⊥
Greater≢Equal e = false≢true (ap is_eq e)

Less≢Greater : Less ≡ Greater → ⊥
Less≢Greater e = false≢true (ap is_gt e)

pub same-from : (s t : Spot) → same_spot s t ≡ true → s ≡ t
same-from s t e = let w = and_parts (s.tree == t.tree) (s.pre == t.pre) e in λ i. record { tree = eqb-true s.tree t.tree w.0 i; pre = eqb-true s.pre t.pre w.1 i }

pub same-self : (s : Spot) → same_spot s s ≡ true
same-self s = and_from (s.tree == s.tree) (s.pre == s.pre) (eq-eqb s.tree s.tree refl) (eq-eqb s.pre s.pre refl)

pub cmp-self : (s : Spot) → document_order s s ≡ Equal
cmp-self s = ap (λ o. ordering_then o (nat_cmp s.pre s.pre)) (equal s.tree) ∙ equal s.pre

-- # What rises

among-above : (x : Spot) (xs : List Spot) → AllByRecursion (λ y. document_order x y ≡ Less) xs → (s : Spot) → is_among xs s ≡ true → document_order x s ≡ Less
among-above x [] h s e = absurd (false≢true e)
among-above x (y ∷ ys) h s e = ⊎_elim
    (λ same. ap (document_order x) (same-from s y same) ∙ h.0)
    (λ later. among-above x ys h.1 s later)
    (or_cases (same_spot s y) (is_among ys s) e)

not_after : (x : Spot) (xs : List Spot) → AllByRecursion (λ y. document_order x y ≡ Less) xs → (s : Spot) → s ≡ x → is_among xs s ≡ false
not_after x xs h s e = not_true (is_among xs s) (λ among. Less≢Equal (sym (among-above x xs h s among) ∙ ap (document_order x) e ∙ cmp-self x))

first : (x y : Spot) (xs ys : List Spot) → AllByRecursion (λ z. document_order x z ≡ Less) xs → AllByRecursion (λ z. document_order y z ≡ Less) ys → ((s : Spot) → is_among (x ∷ xs) s ≡ is_among (y ∷ ys) s) → x ≡ y
first x y xs ys hx hy same = ⊎_elim
    (λ e. same-from x y e)
    (λ x_later. ⊎_elim
    (λ e. sym (same-from y x e))
    (λ y_later. absurd (Less≢Greater (sym (among-above x xs hx y y_later) ∙ total.antisymm x y ∙ ap ordering_reverse (among-above y ys hy x x_later))))
    (or_cases (same_spot y x) (is_among xs y) (same y ∙ or_left (same_spot y y) (is_among ys y) (same-self y))))
    (or_cases (same_spot x y) (is_among ys x) (sym (same x) ∙ or_left (same_spot x x) (is_among xs x) (same-self x)))

rest : (x y : Spot) (xs ys : List Spot) → x ≡ y → AllByRecursion (λ z. document_order x z ≡ Less) xs → AllByRecursion (λ z. document_order y z ≡ Less) ys → ((s : Spot) → is_among (x ∷ xs) s ≡ is_among (y ∷ ys) s) → (s : Spot) → is_among xs s ≡ is_among ys s
rest x y xs ys is hx hy same s = by (same_spot s x) refl
  where
    by : (b : Bool) → same_spot s x ≡ b → is_among xs s ≡ is_among ys s
    by true e = let here = same-from s x e in not_after x xs hx s here ∙ sym (not_after y ys hy s (here ∙ is))
    by false e = ap (λ b. b || is_among xs s) (sym e) ∙ same s ∙ ap (λ b. b || is_among ys s) (ap (same_spot s) (sym is) ∙ e)

-- two lists that rise and have the same places are equal
pub unique : (xs ys : List Spot) → AreRising xs → AreRising ys → ((s : Spot) → is_among xs s ≡ is_among ys s) → xs ≡ ys
unfolding IsStrictlySortedBy
unique [] [] hx hy same = refl
unique [] (y ∷ ys) hx hy same = absurd (false≢true (same y ∙ or_left (same_spot y y) (is_among ys y) (same-self y)))
unique (x ∷ xs) [] hx hy same = absurd (false≢true (sym (same x) ∙ or_left (same_spot x x) (is_among xs x) (same-self x)))
unique (x ∷ xs) (y ∷ ys) hx hy same =
    let e = first x y xs ys hx.0 hy.0 same in
    let later = unique xs ys hx.1 hy.1 (rest x y xs ys e hx.0 hy.0 same) in
    λ i. e i ∷ later i

-- # What calls leave

or_twice : (a b : Bool) → (a || b) ≡ (a || (a || b))
or_twice true b = refl
or_twice false b = refl

among-dedup_from : (s k : Spot) (xs : List Spot) → is_among (dedup_from same_spot k xs) s ≡ is_among (k ∷ xs) s
among-dedup_from s k [] = refl
among-dedup_from s k (x ∷ xs) = by (same_spot x k) refl (among-dedup_from s k xs) (among-dedup_from s x xs)
  where
    by : (b : Bool) → same_spot x k ≡ b → is_among (dedup_from same_spot k xs) s ≡ is_among (k ∷ xs) s → is_among (dedup_from same_spot x xs) s ≡ is_among (x ∷ xs) s → is_among (cond b (dedup_from same_spot k xs) (k ∷ dedup_from same_spot x xs)) s ≡ is_among (k ∷ x ∷ xs) s
    by true e kept next = kept ∙ or_twice (same_spot s k) (is_among xs s) ∙ ap (λ z. same_spot s k || (same_spot s z || is_among xs s)) (sym (same-from x k e))
    by false e kept next = ap (λ b. same_spot s k || b) next

pub among-dedup : (s : Spot) (xs : List Spot) → is_among (dedup same_spot xs) s ≡ is_among xs s
among-dedup s [] = refl
among-dedup s (x ∷ xs) = among-dedup_from s x xs

pub among-filter : (f : Spot → Bool) (xs : List Spot) (s : Spot) → is_among (filter f xs) s ≡ (is_among xs s && f s)
among-filter f [] s = refl
among-filter f (x ∷ xs) s = by (f x) refl (same_spot s x) refl (among-filter f xs s)
  where
    by : (b : Bool) → f x ≡ b → (c : Bool) → same_spot s x ≡ c → is_among (filter f xs) s ≡ (is_among xs s && f s) → is_among (cond b (x ∷ filter f xs) (filter f xs)) s ≡ ((c || is_among xs s) && f s)
    by true e true h later = ap (λ c. c || is_among (filter f xs) s) h ∙ sym (ap f (same-from s x h) ∙ e)
    by true e false h later = ap (λ c. c || is_among (filter f xs) s) h ∙ later
    by false e true h later = let no = ap f (same-from s x h) ∙ e in later ∙ and_right (is_among xs s) (f s) no ∙ sym no
    by false e false h later = later

-- # The places of one tree

abbrev pub run : ℕ → ℕ → ℕ → List Spot
run tree a n = map (spot tree) (range_with_len a n)

run-after : (tree b a n : ℕ) → b < a → AllByRecursion (λ y. document_order (spot tree b) y ≡ Less) (run tree a n)
run-after tree b a zero h = tt
run-after tree b a (suc n) h = (ap (λ o. ordering_then o (nat_cmp b a)) (equal tree) ∙ less b a h, run-after tree b (a + 1) n (omega (arith, h)))

pub run-beyond : (m b tree a n : ℕ) → m < tree → AllByRecursion (λ y. document_order (spot m b) y ≡ Less) (run tree a n)
run-beyond m b tree a zero h = tt
run-beyond m b tree a (suc n) h = (ap (λ o. ordering_then o (nat_cmp b a)) (less m tree h), run-beyond m b tree (a + 1) n h)

pub run-rises : (tree a n : ℕ) (more : List Spot) → ((b : ℕ) → AllByRecursion (λ y. document_order (spot tree b) y ≡ Less) more) → AreRising more → AreRising (run tree a n ++ more)
unfolding IsStrictlySortedBy
run-rises tree a zero more beyond rises = rises
run-rises tree a (suc n) more beyond rises = (all_append (λ y. document_order (spot tree a) y ≡ Less) (run tree (a + 1) n) more (run-after tree a (a + 1) n (omega arith)) (beyond a), run-rises tree (a + 1) n more beyond rises)

pub run-among : (tree a n p : ℕ) → p < n → is_among (run tree a n) (spot tree (a + p)) ≡ true
run-among tree a zero p h = absurd (omega (arith, h))
run-among tree a (suc n) zero h =
    let e : a + 0 ≡ a = omega arith in
    or_left (same_spot (spot tree (a + 0)) (spot tree a)) (is_among (run tree (a + 1) n) (spot tree (a + 0))) (ap (λ k. same_spot (spot tree k) (spot tree a)) e ∙ same-self (spot tree a))
run-among tree a (suc n) (suc p) h =
    let e : a + suc p ≡ a + 1 + p = omega arith in
    or_right (same_spot (spot tree (a + suc p)) (spot tree a)) (is_among (run tree (a + 1) n) (spot tree (a + suc p))) (ap (λ k. is_among (run tree (a + 1) n) (spot tree k)) e ∙ run-among tree (a + 1) n p (omega (arith, h)))

-- # What a search finds

pub ties : (x y : Spot) → same_spot x y ≡ eq_by_cmp document_order x y
ties = law.matches_eq-law

among-at : (s : Spot) (xs : List Spot) (i : ℕ) → i < length xs → same_spot s (slice_index_or xs i s) ≡ true → is_among xs s ≡ true
among-at s [] i h e = absurd (omega (arith, h))
among-at s (x ∷ xs) zero h e = or_left (same_spot s x) (is_among xs s) e
among-at s (x ∷ xs) (suc i) h e = or_right (same_spot s x) (is_among xs s) (among-at s xs i (omega (arith, h)) e)

equal-from : (s t : Spot) → document_order t s ≡ Equal → same_spot s t ≡ true
equal-from s t e = ties s t ∙ ap is_eq (total.antisymm s t ∙ ap ordering_reverse e)

differs : (s t : Spot) → (document_order t s ≡ Equal → ⊥) → same_spot s t ≡ false
differs s t apart = not_true (same_spot s t) (λ e. apart (ap (λ u. document_order u s) (sym (same-from s t e)) ∙ cmp-self s))

none-among : (s : Spot) (xs : List Spot) → ((i : ℕ) → i < length xs → document_order (slice_index_or xs i s) s ≡ Equal → ⊥) → is_among xs s ≡ false
none-among s [] apart = refl
none-among s (x ∷ xs) apart =
    ap (λ b. b || is_among xs s) (differs s x (apart 0 (omega arith))) ∙ none-among s xs (λ i h. apart (suc i) (omega (arith, h)))

pub among-search : (s : Spot) (xs : List Spot) (r : Result ℕ ℕ) → IsSorted document_order xs → IsSearchInRange r (length xs) → IsBinarySearchResult (λ y. document_order y s) xs r → is_ok r ≡ is_among xs s
among-search s xs (Ok i) up bound found = sym (among-at s xs i bound (equal-from s (slice_index_or xs i s) (found s)))
among-search s xs (Err i) up bound found =
    let parts = found (searchable_from_sorted total (λ x. x) xs s up) in
    sym (none-among s xs (λ k h e. ⊎_elim
    (λ before. Less≢Equal (sym (parts.0 k s (omega arith) before) ∙ e))
    (λ from. Greater≢Equal (sym (parts.1 k s from h) ∙ e))
    (cases_lt k i)))

pub rising-sorted : (xs : List Spot) → AreRising xs → IsSorted document_order xs
unfolding IsStrictlySortedBy
rising-sorted [] rises k d low high = absurd (omega (arith, high))
rising-sorted (x ∷ []) rises k d low high = absurd (omega (arith, high))
rising-sorted (x ∷ y ∷ ys) rises zero d low high = ap is_lt (total.antisymm y x ∙ ap ordering_reverse rises.0.0)
rising-sorted (x ∷ y ∷ ys) rises (suc k) d low high =
    let e : suc k + 1 ≡ suc (k + 1) = omega arith in
    ap (λ m. is_lt (document_order (slice_index_or (x ∷ y ∷ ys) m d) (slice_index_or (y ∷ ys) k d))) e ∙ rising-sorted (y ∷ ys) rises.1 k d (omega arith) (omega (arith, high))
