-- Facts of all elements of a list, one element after another.
use Rattle.std.proofs.Common.{◌≡◌, ℕ, zero, suc, arith, slice_index_or, Option, Some, None, Result, Ok, Err, ◌+◌, ◌<◌, ◌≤◌, List, [], ◌∷◌, ◌++◌, length, map, take, drop, get_or, refl, sym, ◌∙◌, ap, subst, add-one}
use Rattle.std.specs.Prelude.{IfOk, IfSome}
use Rattle.std.specs.List.{AllByRecursion}
use Rattle.std.proofs.lemmas.List.{map-append, take_all}
use Rattle.std.proofs.Math.Seq.{drop-cons}
use Rattle.xq_trees.proofs.Lists.{all_append}
use Rattle.xq_operators.proofs.Lists.{taken_next}

-- what is left begins with the element at the index
pub left_first : {X : Type 0} (xs : List X) (i : ℕ) (x : X) → i < length xs → x ≡ get_or xs i x → drop i xs ≡ x ∷ drop (i + 1) xs
left_first xs i x h is = rw add-one (drop-cons xs i x h ∙ ap (λ y. y ∷ drop (suc i) xs) (sym is))

pub seen_next : {X A : Type 0} (view : X → A) (xs : List X) (i : ℕ) (x : X) → i < length xs → x ≡ get_or xs i x → map view (take (i + 1) xs) ≡ map view (take i xs) ++ view x ∷ []
seen_next view xs i x h is = ap (map view) (taken_next xs i x h is) ∙ map-append view (take i xs) (x ∷ [])

module _ {X A : Type 0} (P : A → Type 0) (view : X → A) (xs : List X) (i : ℕ) where
  pub all_seen_next : (x : X) → AllByRecursion P (map view (take i xs)) → i < length xs → x ≡ get_or xs i x → P (view x) → AllByRecursion P (map view (take (i + 1) xs))
  all_seen_next x h k is here = subst (AllByRecursion P) (sym (seen_next view xs i x k is)) (all_append P (map view (take i xs)) (view x ∷ []) h (here, tt))

  pub all_seen : length xs ≤ i → AllByRecursion P (map view (take i xs)) → AllByRecursion P (map view xs)
  all_seen k h = subst (λ l. AllByRecursion P (map view l)) (take_all i xs k) h

module _ {X : Type 0} (P : X → Type 0) (xs : List X) (i : ℕ) where
  pub all_next : (x : X) → AllByRecursion P (take i xs) → i < length xs → x ≡ get_or xs i x → P x → AllByRecursion P (take (i + 1) xs)
  all_next x h k is here = subst (AllByRecursion P) (sym (taken_next xs i x k is)) (all_append P (take i xs) (x ∷ []) h (here, tt))

  pub all_done : length xs ≤ i → AllByRecursion P (take i xs) → AllByRecursion P xs
  all_done k h = subst (AllByRecursion P) (take_all i xs k) h

-- the element at an index is one of them
pub all_index : {X : Type 0} (P : X → Type 0) (xs : List X) (i : ℕ) (d : X) → AllByRecursion P xs → i < length xs → P (slice_index_or xs i d)
all_index P [] i d h k = absurd (omega arith)
all_index P (y ∷ ys) zero d h k = h.0
all_index P (y ∷ ys) (suc i) d h k = all_index P ys i d h.1 (omega arith)

-- what follows from a result
pub if_ok : {A E : Type 0} (P Q : A → Type 0) (r : Result A E) → ((x : A) → P x → Q x) → IfOk r P → IfOk r Q
if_ok P Q (Ok x) then' h = then' x h
if_ok P Q (Err e) then' h = h

-- what follows where something was found
pub if_found : {A E : Type 0} (P R : A → Type 0) (Q : Type 0) (r : Result (Option A) E) → ((x : A) → P x → Q → R x)
    → IfOk r (λ o. IfSome o P) → IfOk r (λ o. IfSome o (λ x. Q)) → IfOk r (λ o. IfSome o R)
if_found P R Q (Ok (Some x)) then' h k = then' x h k
if_found P R Q (Ok None) then' h k = tt
if_found P R Q (Err e) then' h k = h

pub if_some : {A E : Type 0} (P R : A → Type 0) (r : Result (Option A) E) → ((x : A) → P x → R x)
    → IfOk r (λ o. IfSome o P) → IfOk r (λ o. IfSome o R)
if_some P R (Ok (Some x)) then' h = then' x h
if_some P R (Ok None) then' h = tt
if_some P R (Err e) then' h = h

-- and where it is so of all
pub some_of_all : {B A E : Type 0} (P : B → A → Type 0) (R : A → Type 0) (r : Result (Option A) E) → ((x : A) → ((b : B) → P b x) → R x)
    → ((b : B) → IfOk r (λ o. IfSome o (P b))) → IfOk r (λ o. IfSome o R)
some_of_all P R (Ok (Some x)) then' h = then' x h
some_of_all P R (Ok None) then' h = tt
some_of_all P R (Err e) then' h = tt

pub if_held : {A : Type 0} (P R : A → Type 0) (o : Option A) → ((x : A) → P x → R x) → IfSome o P → IfSome o R
if_held P R (Some x) then' h = then' x h
if_held P R None then' h = tt

-- an element that was read
pub element : {X : Type 0} (P : X → Type 0) (xs : List X) (i : ℕ) (x : X) → AllByRecursion P xs → i < length xs → x ≡ get_or xs i x → P x
element P xs i x h k is = subst P (sym is) (all_index P xs i x h k)

pub none_left : {X : Type 0} (xs : List X) → length xs < 1 → xs ≡ []
none_left [] h = refl
none_left (x ∷ xs) h = absurd (omega (arith, h))
