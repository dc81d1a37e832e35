-- Lists that are made from others, one element after another.
use Rattle.std.proofs.Common.{◌≡◌, ℕ, ◌+◌, ◌<◌, ◌≤◌, List, [], ◌∷◌, ◌++◌, map, take, length, get_or, sym, ap, ◌∙◌, add-one, drop, length-drop, ◌-◌, arith}
use Rattle.std.proofs.Math.Seq.{take-suc}
use Rattle.std.proofs.lemmas.List.{map-append, take_all, append-nil}
use Rattle.std.proofs.lemmas.Grind.{flat_map-append}
use Rattle.std.specs.List.{flat_map}
use Rattle.std.specs.Prelude.{IfOk, Result, Ok, Err}

pub take_next : {A : Type 0} (all : List A) (i : ℕ) (y : A) → i < length all → y ≡ get_or all i y →
    take (i + 1) all ≡ take i all ++ y ∷ []
take_next all i y h is =
    rw add-one (take-suc all i y h ∙ ap (λ z. take i all ++ z ∷ []) (sym is))

module _ {A B M : Type 0} (f : A → M) (g : B → M) (all : List B) (i : ℕ) (done : List A) where
  pub map_next : (x : A) (y : B) → map f done ≡ map g (take i all) → i < length all →
      y ≡ get_or all i y → f x ≡ g y → map f (done ++ x ∷ []) ≡ map g (take (i + 1) all)
  map_next x y so_far h is same =
      map-append f done (x ∷ []) ∙ ap (λ zs. zs ++ f x ∷ []) so_far
      ∙ ap (λ z. map g (take i all) ++ z ∷ []) same
      ∙ sym (map-append g (take i all) (y ∷ []))
      ∙ ap (map g) (sym (take_next all i y h is))

  pub map_done : map f done ≡ map g (take i all) → length all ≤ i → map f done ≡ map g all
  map_done so_far h = so_far ∙ ap (map g) (take_all i all h)

  pub push_next : {C : Type 0} (h : B → C) (so_far : List C) (x : C) (y : B) → so_far ≡ map h (take i all) →
      i < length all → y ≡ get_or all i y → x ≡ h y → so_far ++ x ∷ [] ≡ map h (take (i + 1) all)
  push_next h so_far x y are l is same =
      ap (λ zs. zs ++ x ∷ []) are ∙ ap (λ z. map h (take i all) ++ z ∷ []) same
      ∙ sym (map-append h (take i all) (y ∷ [])) ∙ ap (map h) (sym (take_next all i y l is))

  pub flat_next : {C : Type 0} (h : B → List C) (so_far more : List C) (y : B) → so_far ≡ flat_map h (take i all) →
      i < length all → y ≡ get_or all i y → more ≡ h y → so_far ++ more ≡ flat_map h (take (i + 1) all)
  flat_next h so_far more y are l is same =
      ap (λ zs. zs ++ more) are ∙ ap (λ z. flat_map h (take i all) ++ z) (same ∙ sym (append-nil (h y)))
      ∙ sym (flat_map-append h (take i all) (y ∷ [])) ∙ ap (flat_map h) (sym (take_next all i y l is))

-- what holds of a value, where there is one
pub if_ok : {A E : Type 0} {P Q : A → Type 0} (r : Result A E) → ((x : A) → P x → Q x) → IfOk r P → IfOk r Q
if_ok (Ok x) h p = h x p
if_ok (Err e) h p = tt

pub first_and_rest : {A : Type 0} (xs : List A) (x : A) → 1 ≤ length xs → x ≡ get_or xs 0 x → x ∷ drop 1 xs ≡ xs
first_and_rest [] x h is = absurd (omega (arith, h))
first_and_rest (y ∷ ys) x h is = ap (λ z. z ∷ ys) is

pub rest_is : {A : Type 0} (xs : List A) → take (length xs - 1) (drop 1 xs) ≡ drop 1 xs
rest_is xs = take_all (length xs - 1) (drop 1 xs) (omega (arith, length-drop 1 xs))
