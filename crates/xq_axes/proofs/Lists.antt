-- Lists of places, and tests of some of them.
use Rattle.std.proofs.Common.{◌≡◌, ◌≢◌, ℕ, zero, suc, ◌+◌, ◌<◌, ◌≤◌, List, [], ◌∷◌, ◌++◌, length, get_or, Bool, true, false, ◌&&◌, ◌||◌, cond, eqb, inl, inr, refl, sym, ◌∙◌, ap, subst, arith}
use Rattle.std.specs.Prelude.{slice_get, Some, None}
use Rattle.std.specs.List.{list_any}
use Rattle.std.proofs.lemmas.List.{append-nil}
use Rattle.std.proofs.lemmas.Bool.{cases_lt, eqb-true, eq-eqb, or_cases, or_left, or_right, false_from_ne_true}
use Rattle.xq_axes.specs.private.Hits.{is_among, below_where, IsRising, IsReached}

-- # Some element passes

pub any_from : {X : Type 0} (p : X → Bool) (xs : List X) (i : ℕ) (d : X) → i < length xs → p (get_or xs i d) ≡ true → list_any p xs ≡ true
any_from p [] i d h e = absurd (omega (arith, h))
any_from p (x ∷ xs) zero d h e = or_left (p x) (list_any p xs) e
any_from p (x ∷ xs) (suc i) d h e = or_right (p x) (list_any p xs) (any_from p xs i d (omega (arith, h)) e)

pub record Some_at {X : Type 0} (p : X → Bool) (xs : List X) (d : X) : Type 0 where
  pub index : ℕ
  pub within : index < length xs
  pub holds : p (get_or xs index d) ≡ true

pub any_at : {X : Type 0} (p : X → Bool) (xs : List X) (d : X) → list_any p xs ≡ true → Some_at p xs d
any_at p [] d e = absurd (cc)
any_at p (x ∷ xs) d e = elim (or_cases (p x) (list_any p xs) e) [
  | inl h ↦ record { index = 0; within = omega arith; holds = h }
  | inr h ↦ (let w = any_at p xs d h in record { index = suc w.index; within = omega (arith, w.within); holds = w.holds })
]

-- tests that agree at each element
pub any_agree : {X : Type 0} (p q : X → Bool) (xs : List X) (d : X) → ((i : ℕ) → i < length xs → p (get_or xs i d) ≡ q (get_or xs i d)) → list_any p xs ≡ list_any q xs
any_agree p q [] d h = refl
any_agree p q (x ∷ xs) d h =
    let first : p x ≡ q x = h 0 (omega arith) in
    let rest : list_any p xs ≡ list_any q xs = any_agree p q xs d (λ i l. h (suc i) (omega (arith, l))) in
    rw (first, rest)

pub any_and : {X : Type 0} (p : X → Bool) (b : Bool) (xs : List X) → list_any (λ x. p x && b) xs ≡ (list_any p xs && b)
any_and p b [] = refl
any_and p b (x ∷ xs) = ap (λ r. (p x && b) || r) (any_and p b xs) ∙ shared (p x) (list_any p xs) b
  where
    shared : (x y z : Bool) → ((x && z) || (y && z)) ≡ ((x || y) && z)
    shared true true true = refl
    shared true true false = refl
    shared true false true = refl
    shared true false false = refl
    shared false y z = refl

pub any_or : {X : Type 0} (p q : X → Bool) (xs : List X) → list_any (λ x. p x || q x) xs ≡ (list_any p xs || list_any q xs)
any_or p q [] = refl
any_or p q (x ∷ xs) = ap (λ r. (p x || q x) || r) (any_or p q xs) ∙ shared (p x) (q x) (list_any p xs) (list_any q xs)
  where
    shared : (a b c d : Bool) → ((a || b) || (c || d)) ≡ ((a || c) || (b || d))
    shared true b c d = refl
    shared false true true d = refl
    shared false true false d = refl
    shared false false c d = refl

pub any_none : {X : Type 0} (p : X → Bool) (xs : List X) (d : X) → ((i : ℕ) → i < length xs → p (get_or xs i d) ≡ true → ⊥) → list_any p xs ≡ false
any_none p xs d h = false_from_ne_true (list_any p xs) (λ e. (let w = any_at p xs d e in h w.index w.within w.holds))

-- # Numbers that pass, below a bound

pub below_where-none : (f : ℕ → Bool) (n m : ℕ) → n ≤ m → ((p : ℕ) → n ≤ p → p < m → f p ≡ false) → below_where f m ≡ below_where f n
below_where-none f n zero h g = (let e : n ≡ 0 = omega arith in ap (below_where f) (sym e))
below_where-none f n (suc m) h g =
    elim (cases_lt n (suc m)) [
      | inl l ↦ (
          let e = g m (omega arith) (omega arith) in
          ap (λ b. below_where f m ++ cond b (m ∷ []) []) e ∙ append-nil (below_where f m)
          ∙ below_where-none f n m (omega arith) (λ p a b. g p a (omega (arith, b))))
      | inr l ↦ (let e : n ≡ suc m = omega arith in ap (below_where f) (sym e))
    ]

pub below_where-agree : (f g : ℕ → Bool) (n : ℕ) → ((p : ℕ) → p < n → f p ≡ g p) → below_where f n ≡ below_where g n
below_where-agree f g zero h = refl
below_where-agree f g (suc n) h =
    let e = h n (omega arith) in
    let r = below_where-agree f g n (λ p l. h p (omega (arith, l))) in
    rw (e, r)

-- # Rising lists

pub among_at : (vs : List ℕ) (i n : ℕ) → i < length vs → get_or vs i 0 ≡ n → is_among vs n ≡ true
among_at vs i n h e = any_from (λ v. eqb v n) vs i 0 h (eq-eqb (get_or vs i 0) n e)

pub among_index : (vs : List ℕ) (n : ℕ) → is_among vs n ≡ true → (i : ℕ) × (i < length vs) × (get_or vs i 0 ≡ n)
among_index vs n e = let w = any_at (λ v. eqb v n) vs 0 e in (w.index, w.within, eqb-true (get_or vs w.index 0) n w.holds)

pub not_among : (vs : List ℕ) (n : ℕ) → ((i : ℕ) → i < length vs → get_or vs i 0 ≡ n → ⊥) → is_among vs n ≡ false
not_among vs n h = false_from_ne_true (is_among vs n) (λ e. (let w = among_index vs n e in h w.0 w.1 w.2))

pub reached_none : (vs : List ℕ) → IsReached vs 0 0
reached_none vs = record { within = omega arith; before = λ i h. absurd (omega (arith, h)); others = λ i h l. omega arith }

-- at a place that is met, and at one that is not
pub reached_met : (vs : List ℕ) (index n : ℕ) → IsRising vs → IsReached vs index n → index < length vs → get_or vs index 0 ≡ n → IsReached vs (index + 1) (n + 1)
reached_met vs index n up r h e = record {
  within = omega arith;
  before = λ i l. elim (cases_lt i index) [
    | inl k ↦ (let b = r.before i k in omega (arith, b))
    | inr k ↦ (let same : i ≡ index = omega arith in let s : get_or vs i 0 ≡ n = ap (λ j. get_or vs j 0) same ∙ e in omega (arith, s))
  ];
  others = λ i l k. (let b = up index i (omega arith) k in omega (arith, b, e));
}

pub reached_past : (vs : List ℕ) (index n : ℕ) → IsReached vs index n → (index < length vs → get_or vs index 0 ≢ n) → IsRising vs → IsReached vs index (n + 1)
reached_past vs index n r ne up = record {
  within = r.within;
  before = λ i l. (let b = r.before i l in omega (arith, b));
  others = λ i l k. elim (cases_lt index i) [
    | inl j ↦ (let a = r.others index (omega arith) (omega arith) in let b = up index i j k in omega (arith, a, b))
    | inr j ↦ (
        let same : i ≡ index = omega arith in
        let a = r.others i l k in
        let d : get_or vs i 0 ≢ n = subst (λ x. get_or vs x 0 ≢ n) (sym same) (ne (omega arith)) in
        omega (arith, a, d))
  ];
}

pub reached_among : (vs : List ℕ) (index n : ℕ) → IsRising vs → IsReached vs index n → (index < length vs → get_or vs index 0 ≢ n) → is_among vs n ≡ false
reached_among vs index n up r ne = not_among vs n (λ i h e. elim (cases_lt i index) [
  | inl k ↦ (let b = r.before i k in omega (arith, b, e))
  | inr k ↦ elim (cases_lt index i) [
    | inl j ↦ (let a = r.others index (omega arith) (omega arith) in let b = up index i j h in omega (arith, a, b, e))
    | inr j ↦ (let same : index ≡ i = omega arith in ne (omega arith) (ap (λ x. get_or vs x 0) same ∙ e))
  ]
])

-- over places among which there is none of the list
pub reached_over : (vs : List ℕ) (index n m : ℕ) → IsReached vs index n → n ≤ m → (index < length vs → m ≤ get_or vs index 0) → IsRising vs → IsReached vs index m
reached_over vs index n m r h g up = record {
  within = r.within;
  before = λ i l. (let b = r.before i l in omega (arith, b));
  others = λ i l k. elim (cases_lt index i) [
    | inl j ↦ (let a = g (omega arith) in let b = up index i j k in omega (arith, a, b))
    | inr j ↦ (let same : index ≡ i = omega arith in subst (λ x. m ≤ get_or vs x 0) same (g (omega arith)))
  ];
}

-- # An element by its index

pub got : (xs : List ℕ) (i x : ℕ) → slice_get xs i ≡ Some x → (i < length xs) × (get_or xs i 0 ≡ x)
got [] i x e = absurd (cc)
got (y ∷ xs) zero x e = (omega arith, (let h : y ≡ x = cc in h))
got (y ∷ xs) (suc i) x e = let w = got xs i x e in (omega (arith, w.0), w.1)

pub got_none : (xs : List ℕ) (i : ℕ) → slice_get xs i ≡ None → length xs ≤ i
got_none [] i e = omega arith
got_none (y ∷ xs) zero e = absurd (cc)
got_none (y ∷ xs) (suc i) e = omega (arith, got_none xs i e)
