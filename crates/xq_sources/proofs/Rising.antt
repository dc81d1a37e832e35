-- Lists of addresses that rise: what stands where, one more, one fewer.
use Rattle.std.proofs.Common.{◌≡◌, ◌+◌, ◌<◌, ◌≤◌, ℕ, zero, suc, List, [], ◌∷◌, length, map, take, drop, Some, IfSome, String, Global, string_bytes, get_or, refl, sym, ap, subst, ◌∙◌, arith, inl, inr}
use Rattle.std.specs.Prelude.{slice_get}
use Rattle.std.proofs.lemmas.Bool.{cases_lt}
use Rattle.std.specs.List.{AllByRecursion, insert, remove}
use Rattle.std.specs.Ordering.{nat_cmp, ordering_reverse}
use Rattle.std.specs.FinMap.{nat_cmp-IsAntisymmetric, slice_cmp-IsAntisymmetric}
use Rattle.std.specs.Cmp.Lexicographic.{slice_cmp, nat_list_cmp_total}
use Rattle.std.specs.declared.cmp.Ordering.TheVariants.{Equal, Greater}
use Rattle.xq_sources.specs.Addresses.{IsBefore, IsGap, Rise}

-- # The order

pub before_then : (a b c : List ℕ) → IsBefore a b → IsBefore b c → IsBefore a c
before_then a b c p q = nat_list_cmp_total.trans a b c p q

pub is_after : (a b : List ℕ) → slice_cmp nat_cmp a b ≡ Greater → IsBefore b a
is_after a b e = nat_list_cmp_total.antisymm b a ∙ ap ordering_reverse e

pub is_same : (a b : List ℕ) → slice_cmp nat_cmp a b ≡ Equal → a ≡ b
is_same a b e = slice_cmp-IsAntisymmetric nat_cmp-IsAntisymmetric a b e

-- # Lists

-- what stands somewhere in a list has the property that all in the list have
pub at_all : {X : Type 0} (P : X → Type 0) (xs : List X) (i : ℕ) (x : X) → AllByRecursion P xs → slice_get xs i ≡ Some x → P x
at_all P [] i x all e = absurd cc
at_all P (y ∷ xs) zero x all e = subst (λ o. IfSome o P) e all.0
at_all P (y ∷ xs) (suc i) x all e = at_all P xs i x all.1 e

pub all_from : {X : Type 0} (P : X → Type 0) (xs : List X) → ((i : ℕ) (x : X) → slice_get xs i ≡ Some x → P x) → AllByRecursion P xs
all_from P [] each = tt
all_from P (y ∷ xs) each = (each 0 y refl, all_from P xs (λ i x e. each (suc i) x e))

all_drop : {X : Type 0} (P : X → Type 0) (n : ℕ) (xs : List X) → AllByRecursion P xs → AllByRecursion P (drop n xs)
all_drop P zero xs all = all
all_drop P (suc n) [] all = all
all_drop P (suc n) (x ∷ xs) all = all_drop P n xs all.1

all_insert : {X : Type 0} (P : X → Type 0) (xs : List X) (i : ℕ) (y : X) → AllByRecursion P xs → P y → AllByRecursion P (insert xs i y)
all_insert P xs zero y all is = (is, all)
all_insert P [] (suc i) y all is = (is, all)
all_insert P (x ∷ xs) (suc i) y all is = (all.0, all_insert P xs i y all.1 is)

all_remove : {X : Type 0} (P : X → Type 0) (xs : List X) (i : ℕ) → AllByRecursion P xs → AllByRecursion P (remove xs i)
all_remove P [] zero all = all
all_remove P [] (suc i) all = all
all_remove P (x ∷ xs) zero all = all.1
all_remove P (x ∷ xs) (suc i) all = (all.0, all_remove P xs i all.1)

pub map-insert : {X Y : Type 0} (f : X → Y) (xs : List X) (i : ℕ) (y : X) → map f (insert xs i y) ≡ insert (map f xs) i (f y)
map-insert f xs zero y = refl
map-insert f [] (suc i) y = refl
map-insert f (x ∷ xs) (suc i) y = ap (λ ys. f x ∷ ys) (map-insert f xs i y)

pub map-remove : {X Y : Type 0} (f : X → Y) (xs : List X) (i : ℕ) → map f (remove xs i) ≡ remove (map f xs) i
map-remove f [] zero = refl
map-remove f [] (suc i) = refl
map-remove f (x ∷ xs) zero = refl
map-remove f (x ∷ xs) (suc i) = ap (λ ys. f x ∷ ys) (map-remove f xs i)

pub text_at : (xs : List (String Global)) (i : ℕ) (x : String Global) → i < length xs → x ≡ get_or xs i x → slice_get (map string_bytes xs) i ≡ Some (string_bytes x)
text_at [] i x h e = absurd (omega (arith, h))
text_at (y ∷ xs) zero x h e = ap (λ s. Some (string_bytes s)) (sym e)
text_at (y ∷ xs) (suc i) x h e = text_at xs i x (omega (arith, h)) e

-- # Lists that rise

pub rise_at : (xs : List (List ℕ)) (i j : ℕ) (a b : List ℕ) → Rise xs → i < j → slice_get xs i ≡ Some a → slice_get xs j ≡ Some b → IsBefore a b
rise_at [] i j a b up less e f = absurd cc
rise_at (x ∷ xs) i zero a b up less e f = absurd (omega (arith, less))
rise_at (x ∷ xs) zero (suc j) a b up less e f = subst (λ o. IfSome o (λ x. IsBefore x b)) e (at_all (IsBefore x) xs j b up.0 f)
rise_at (x ∷ xs) (suc i) (suc j) a b up less e f = rise_at xs i j a b up.1 (omega (arith, less)) e f

pub rise_insert : (xs : List (List ℕ)) (i : ℕ) (a : List ℕ) → Rise xs → IsGap xs i a → Rise (insert xs i a)
rise_insert xs zero a up gap = (all_from (IsBefore a) xs (λ k b e. gap.rest k b (omega arith) e), up)
rise_insert [] (suc i) a up gap = let w = gap.within in absurd (omega (arith, w))
rise_insert (x ∷ xs) (suc i) a up gap =
    let w = gap.within in
    let later : IsGap xs i a = record {
      within = omega (arith, w);
      front = λ k b less e. gap.front (suc k) b (omega (arith, less)) e;
      rest = λ k b more e. gap.rest (suc k) b (omega (arith, more)) e;
    } in
    (all_insert (IsBefore x) xs i a up.0 (gap.front 0 x (omega arith) refl), rise_insert xs i a up.1 later)

pub rise_remove : (xs : List (List ℕ)) (i : ℕ) → Rise xs → Rise (remove xs i)
rise_remove [] zero up = up
rise_remove [] (suc i) up = up
rise_remove (x ∷ xs) zero up = up.1
rise_remove (x ∷ xs) (suc i) up = (all_remove (IsBefore x) xs i up.0, rise_remove xs i up.1)

-- as far as each comes before the next
pub rise_one_more : (xs : List (List ℕ)) (i : ℕ) (a b : List ℕ) → Rise (take (suc i) xs) → slice_get xs i ≡ Some a → slice_get xs (suc i) ≡ Some b → IsBefore a b → Rise (take (suc (suc i)) xs)
rise_one_more [] i a b up e f less = absurd cc
rise_one_more (x ∷ []) zero a b up e f less = absurd cc
rise_one_more (x ∷ y ∷ xs) zero a b up e f less =
    ((subst (λ o. IfSome o (λ x. IsBefore x y)) (sym e) (subst (λ o. IfSome o (IsBefore a)) (sym f) less), tt), (tt, tt))
rise_one_more (x ∷ xs) (suc i) a b up e f less =
    let before : IsBefore x a = at_all (IsBefore x) (take (suc i) xs) i a up.0 (first_at xs i a e) in
    (all_one_more (IsBefore x) xs i b up.0 f (before_then x a b before less), rise_one_more xs i a b up.1 e f less)
  where
    first_at : (xs : List (List ℕ)) (i : ℕ) (a : List ℕ) → slice_get xs i ≡ Some a → slice_get (take (suc i) xs) i ≡ Some a
    first_at [] i a e = absurd cc
    first_at (x ∷ xs) zero a e = e
    first_at (x ∷ xs) (suc i) a e = first_at xs i a e

    all_one_more : (P : List ℕ → Type 0) (xs : List (List ℕ)) (i : ℕ) (b : List ℕ) → AllByRecursion P (take (suc i) xs) → slice_get xs (suc i) ≡ Some b → P b → AllByRecursion P (take (suc (suc i)) xs)
    all_one_more P [] i b all f is = absurd cc
    all_one_more P (x ∷ []) zero b all f is = absurd cc
    all_one_more P (x ∷ y ∷ xs) zero b all f is = (all.0, (subst (λ o. IfSome o P) (sym f) is, tt))
    all_one_more P (x ∷ xs) (suc i) b all f is = (all.0, all_one_more P xs i b all.1 f is)

pub as_far : (xs : List (List ℕ)) (i : ℕ) (a b : List ℕ) → Rise xs → slice_get xs i ≡ Some a → slice_get xs (suc i) ≡ Some b → IsBefore a b
as_far xs i a b up e f = rise_at xs i (suc i) a b up (omega arith) e f

-- one alone, or none
pub rise_few : (xs : List (List ℕ)) → Rise (take 1 xs)
rise_few [] = tt
rise_few (x ∷ xs) = (tt, tt)

pub rise_whole : (xs : List (List ℕ)) (n : ℕ) → length xs ≤ n → Rise (take n xs) → Rise xs
rise_whole [] n h up = tt
rise_whole (x ∷ xs) zero h up = absurd (omega (arith, h))
rise_whole (x ∷ xs) (suc n) h up = (subst (AllByRecursion (IsBefore x)) (whole xs n (omega (arith, h))) up.0, rise_whole xs n (omega (arith, h)) up.1)
  where
    whole : {X : Type 0} (xs : List X) (n : ℕ) → length xs ≤ n → take n xs ≡ xs
    whole [] zero h = refl
    whole [] (suc n) h = refl
    whole (x ∷ xs) zero h = absurd (omega (arith, h))
    whole (x ∷ xs) (suc n) h = ap (λ ys. x ∷ ys) (whole xs n (omega (arith, h)))

-- # A search by halves

-- what comes before the address lies in front of low, and what it comes before from high on
pub record IsNarrowed (xs : List (List ℕ)) (a : List ℕ) (low high : ℕ) : Type 0 where
  pub order : low ≤ high
  pub within : high ≤ length xs
  pub front : (i : ℕ) (b : List ℕ) → i < low → slice_get xs i ≡ Some b → IsBefore b a
  pub rest : (i : ℕ) (b : List ℕ) → high ≤ i → slice_get xs i ≡ Some b → IsBefore a b

module _ (xs : List (List ℕ)) (a b : List ℕ) (low middle high : ℕ) (up : Rise xs) (is : IsNarrowed xs a low high) (here : slice_get xs middle ≡ Some b) where
  pub goes_right : middle < high → IsBefore b a → IsNarrowed xs a (middle + 1) high
  goes_right within less = record {
    order = omega (arith, within);
    within = is.within;
    front = λ i d h e. elim (cases_lt i middle) [
      | inl far ↦ before_then d b a (rise_at xs i middle d b up far e here) less
      | inr near ↦ (let same : i ≡ middle = omega (arith, h, near) in
          subst (λ o. IfSome o (λ x. IsBefore x a)) (sym here ∙ ap (slice_get xs) (sym same) ∙ e) less)
    ];
    rest = is.rest;
  }

  pub goes_left : low ≤ middle → middle < high → IsBefore a b → IsNarrowed xs a low middle
  goes_left order within more = record {
    order = order;
    within = (let w = is.within in omega (arith, w, within));
    front = is.front;
    rest = λ i d h e. elim (cases_lt middle i) [
      | inl far ↦ before_then a b d more (rise_at xs middle i b d up far here e)
      | inr near ↦ (let same : i ≡ middle = omega (arith, h, near) in
          subst (λ o. IfSome o (IsBefore a)) (sym here ∙ ap (slice_get xs) (sym same) ∙ e) more)
    ];
  }
