-- A loop that keeps in place the elements whose tests hold.
use Rattle.std.proofs.Common.{◌≡◌, ℕ, zero, suc, ◌+◌, ◌-◌, ◌*◌, ◌<◌, ◌≤◌, List, [], ◌∷◌, ◌++◌, length, take, drop, get_or, replicate, Bool, true, false, cond, refl, ap, sym, subst, ◌∙◌, arith}
use Rattle.std.specs.List.{SwappedAt, AllWithin, filter}
use Rattle.std.proofs.lemmas.List.{take_more, take_all, take-set-le, drop-set-lt, drop_more, length-set, get_or_default, append-nil, length-append, length-drop, length-take-le, length-replicate, take-append-drop, take_at, drop_at, get_or_append_left, get_or-append_right, get_or-replicate}
use Rattle.std.proofs.lemmas.List.Elements.{filter_more}
use Rattle.xq_trees.specs.Tuples.{satisfying}
use Rattle.xq_tuples.specs.Keys.{by_tuple}
use Rattle.xq_tuples.specs.private.Laid.{KeepsInPlace, spread}
use Rattle.xq_tuples.proofs.Lists.{kept-push}
use Rattle.xq_tuples.proofs.Laid.{Stands, next_row}

-- an element of a list that has some
element : {X : Type 0} (xs : List X) → 0 < length xs → X
element [] h = absurd (omega arith)
element (x ∷ xs) h = x

module _ {X : Type 0} {xs : List X} {tests : List Bool} {ys : List X} {k i : ℕ} where
  pub KeepsInPlace-all : KeepsInPlace xs tests ys k i → length xs ≤ i → length tests ≤ i → take k ys ≡ satisfying xs tests
  KeepsInPlace-all h p q = h.front ∙ ap (λ l. satisfying l (take i tests)) (take_all i xs p) ∙ ap (satisfying xs) (take_all i tests q)

  step : (x : X) (b : Bool) → KeepsInPlace xs tests ys k i → i < length xs → i < length tests → get_or tests i b ≡ b
      → satisfying (take (i + 1) xs) (take (i + 1) tests) ≡ take k ys ++ cond b (get_or xs i x ∷ []) []
  step x b h p q e =
      ap (λ l. satisfying l (take (i + 1) tests)) (take_more xs i x p) ∙ ap (satisfying (take i xs ++ get_or xs i x ∷ [])) (take_more tests i b q ∙ ap (λ c. take i tests ++ c ∷ []) e)
      ∙ kept-push (take i xs) (take i tests) (get_or xs i x) b (length-take-le i xs (omega arith) ∙ sym (length-take-le i tests (omega arith)))
      ∙ ap (λ l. l ++ cond b (get_or xs i x ∷ []) []) (sym h.front)

  same_rest : (x : X) → KeepsInPlace xs tests ys k i → i < length xs → get_or ys i x ∷ drop (i + 1) ys ≡ get_or xs i x ∷ drop (i + 1) xs
  same_rest x h p = sym (drop_more ys i x (omega (arith, h.long))) ∙ h.rest ∙ drop_more xs i x p

  pub KeepsInPlace-no : KeepsInPlace xs tests ys k i → i < length xs → i < length tests → get_or tests i false ≡ false → KeepsInPlace xs tests ys k (i + 1)
  KeepsInPlace-no h p q e =
      let x = element xs (omega arith) in
      record { front = sym (step x false h p q e ∙ append-nil (take k ys)); rest = ap (drop 1) (same_rest x h p); behind = omega (arith, h.behind); long = h.long }

  pub KeepsInPlace-yes : (zs : List X) → KeepsInPlace xs tests ys k i → i < length xs → i < length tests → get_or tests i true ≡ true → SwappedAt ys zs k i → KeepsInPlace xs tests zs (k + 1) (i + 1)
  KeepsInPlace-yes zs h p q e s =
      let x = element xs (omega arith) in
      let sets = s.3 x in
      let long : length zs ≡ length ys = ap length sets ∙ length-set _ i _ ∙ length-set ys k _ in
      let here : get_or zs k x ≡ get_or xs i x = s.0 x ∙ ap (λ l. get_or l 0 x) (same_rest x h p) in
      let front : take k zs ≡ take k ys = ap (take k) sets ∙ take-set-le k _ i _ h.behind ∙ take-set-le k ys k _ (omega arith) in
      record {
        front = take_more zs k x (omega (arith, h.behind, h.long)) ∙ (λ t. front t ++ here t ∷ []) ∙ sym (step x true h p q e);
        rest = ap (drop (i + 1)) sets ∙ drop-set-lt (i + 1) _ i _ (omega arith) ∙ drop-set-lt (i + 1) ys k _ (omega (arith, h.behind)) ∙ ap (drop 1) (same_rest x h p);
        behind = omega (arith, h.behind);
        long = long ∙ h.long;
      }

pub moved_to : {X : Type 0} (xs : List X) (tests : List Bool) (ys : List X) (k i l j : ℕ) → k ≡ l → i ≡ j → KeepsInPlace xs tests ys k i → KeepsInPlace xs tests ys l j
moved_to xs tests ys k i l j e f h = subst (λ n. KeepsInPlace xs tests ys n j) e (subst (KeepsInPlace xs tests ys k) f h)

-- # Runs of elements

pub passes_over : {X : Type 0} (xs : List X) (tests : List Bool) (ys : List X) (k i w : ℕ) → KeepsInPlace xs tests ys k i → i + w ≤ length xs → length tests ≡ length xs
    → AllWithin (λ test. test ≡ false) tests i (i + w) → KeepsInPlace xs tests ys k (i + w)
passes_over xs tests ys k i zero h l e all = let same : i ≡ i + 0 = omega arith in subst (KeepsInPlace xs tests ys k) same h
passes_over xs tests ys k i (suc w) h l e all =
    let one : KeepsInPlace xs tests ys k (i + 1) = KeepsInPlace-no h (omega (arith, l)) (omega (arith, l, e)) (all i false (omega arith) (omega arith)) in
    let more : i + 1 + w ≡ i + suc w = omega arith in
    subst (KeepsInPlace xs tests ys k) more (passes_over xs tests ys k (i + 1) w one (omega (arith, l)) e (λ j d low high. all j d (omega (arith, low)) (omega (arith, high))))

-- # Tests of tuples, at each slot

pub length-spread : (w : ℕ) (tests : List Bool) → length (spread w tests) ≡ length tests * w
length-spread w [] = omega arith
length-spread w (t ∷ tests) = omega (arith, length-append (replicate w t) (spread w tests), length-replicate w t, length-spread w tests, next_row (length tests) w)

spread_at : (w : ℕ) (tests : List Bool) (i j : ℕ) (d : Bool) → i < length tests → i * w ≤ j → j < i * w + w → get_or (spread w tests) j d ≡ get_or tests i d
spread_at w [] i j d l low high = absurd (omega arith)
spread_at w (t ∷ tests) zero j d l low high =
    let first : j < w = omega (arith, high) in
    get_or_append_left (replicate w t) (spread w tests) d j (omega (arith, first, length-replicate w t)) ∙ get_or-replicate w j t d first
spread_at w (t ∷ tests) (suc i) j d l low high =
    let row = next_row i w in
    get_or-append_right (replicate w t) (spread w tests) w j d (length-replicate w t) (omega (arith, row, low)) ∙ spread_at w tests i (j - w) d (omega (arith, l)) (omega (arith, row, low)) (omega (arith, row, low, high))

pub spread_within : (w : ℕ) (tests : List Bool) (i start : ℕ) (b : Bool) → i < length tests → start ≡ i * w → get_or tests i b ≡ b → AllWithin (λ test. test ≡ b) (spread w tests) start (start + w)
spread_within w tests i start b l e is j d low high = spread_at w tests i j d l (omega (arith, e, low)) (omega (arith, e, high)) ∙ get_or_default tests i d b l ∙ is

-- how many tests hold
abbrev pub holding : List Bool → ℕ
holding tests = length (filter (λ test. test) tests)

pub holding_more : (tests : List Bool) (i : ℕ) (b : Bool) → i < length tests → get_or tests i b ≡ b → holding (take (i + 1) tests) ≡ holding (take i tests) + cond b 1 0
holding_more tests i true l is =
    ap length (filter_more (λ test. test) tests i true l) ∙ ap (λ b. length (filter (λ test. test) (take i tests) ++ cond b (get_or tests i true ∷ []) [])) is ∙ length-append (filter (λ test. test) (take i tests)) (get_or tests i true ∷ [])
holding_more tests i false l is =
    ap length (filter_more (λ test. test) tests i false l) ∙ ap (λ b. length (filter (λ test. test) (take i tests) ++ cond b (get_or tests i false ∷ []) [])) is ∙ length-append (filter (λ test. test) (take i tests)) []

satisfying-append : {A : Type 0} (xs ys : List A) (bs cs : List Bool) → length xs ≡ length bs → satisfying (xs ++ ys) (bs ++ cs) ≡ satisfying xs bs ++ satisfying ys cs
satisfying-append [] ys [] cs e = refl
satisfying-append [] ys (b ∷ bs) cs e = absurd (omega (arith, e))
satisfying-append (x ∷ xs) ys [] cs e = absurd (omega (arith, e))
satisfying-append (x ∷ xs) ys (true ∷ bs) cs e = ap (λ l. x ∷ l) (satisfying-append xs ys bs cs (omega (arith, e)))
satisfying-append (x ∷ xs) ys (false ∷ bs) cs e = satisfying-append xs ys bs cs (omega (arith, e))

all_hold : {A : Type 0} (xs : List A) (w : ℕ) → length xs ≡ w → satisfying xs (replicate w true) ≡ xs
all_hold [] zero e = refl
all_hold [] (suc w) e = absurd (omega (arith, e))
all_hold (x ∷ xs) zero e = absurd (omega (arith, e))
all_hold (x ∷ xs) (suc w) e = ap (λ l. x ∷ l) (all_hold xs w (omega (arith, e)))

none_holds : {A : Type 0} (xs : List A) (w : ℕ) → length xs ≡ w → satisfying xs (replicate w false) ≡ []
none_holds [] zero e = refl
none_holds [] (suc w) e = absurd (omega (arith, e))
none_holds (x ∷ xs) zero e = absurd (omega (arith, e))
none_holds (x ∷ xs) (suc w) e = none_holds xs w (omega (arith, e))

none_kept : {A : Type 0} (xs : List A) → length (satisfying xs []) ≡ 0
none_kept [] = refl
none_kept (x ∷ xs) = refl

kept_step : {A : Type 0} (w : ℕ) (t : Bool) (tests : List Bool) (xs rest : List A) → length (take w xs) ≡ w → satisfying xs (spread w (t ∷ tests)) ≡ satisfying (take w xs) (replicate w t) ++ rest
    → Stands (holding tests) w rest (satisfying (by_tuple (length tests) w (drop w xs)) tests) → Stands (holding (t ∷ tests)) w (satisfying xs (spread w (t ∷ tests))) (satisfying (by_tuple (suc (length tests)) w xs) (t ∷ tests))
kept_step w true tests xs rest front parts h =
    let slots = parts ∙ ap (λ l. l ++ rest) (all_hold (take w xs) w front) in
    record {
      long = ap length slots ∙ omega (arith, length-append (take w xs) rest, front, h.long, next_row (holding tests) w);
      are = ap (by_tuple (suc (holding tests)) w) slots ∙ (λ i. take_at (take w xs) rest w front i ∷ (ap (by_tuple (holding tests) w) (drop_at (take w xs) rest w front) ∙ h.are) i);
    }
kept_step w false tests xs rest front parts h =
    let slots = parts ∙ ap (λ l. l ++ rest) (none_holds (take w xs) w front) in
    record { long = ap length slots ∙ h.long; are = ap (by_tuple (holding tests) w) slots ∙ h.are }

-- what is kept of the slots, tuple by tuple
pub kept_tuples : {A : Type 0} (w : ℕ) (tests : List Bool) (xs : List A) → length xs ≡ length tests * w → Stands (holding tests) w (satisfying xs (spread w tests)) (satisfying (by_tuple (length tests) w xs) tests)
kept_tuples w [] xs e = record { long = none_kept xs ∙ omega arith; are = refl }
kept_tuples w (t ∷ tests) xs e =
    let all = e ∙ next_row (length tests) w in
    let front : length (take w xs) ≡ w = length-take-le w xs (omega (arith, all)) in
    let parts : satisfying xs (replicate w t ++ spread w tests) ≡ satisfying (take w xs) (replicate w t) ++ satisfying (drop w xs) (spread w tests) =
    ap (λ l. satisfying l (replicate w t ++ spread w tests)) (sym (take-append-drop w xs)) ∙ satisfying-append (take w xs) (drop w xs) (replicate w t) (spread w tests) (front ∙ sym (length-replicate w t)) in
    kept_step w t tests xs (satisfying (drop w xs) (spread w tests)) front parts (kept_tuples w tests (drop w xs) (omega (arith, length-drop w xs, all)))
