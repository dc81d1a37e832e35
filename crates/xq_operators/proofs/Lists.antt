-- Lists read one element at a time.
use Rattle.std.proofs.Common.{◌≡◌, ℕ, zero, suc, ◌+◌, ◌<◌, ◌++◌, List, [], ◌∷◌, length, map, take, drop, get_or, refl, sym, ◌∙◌, ap, subst, add-one, arith}
use Rattle.std.specs.List.{AllByRecursion}
use Rattle.std.proofs.Math.Seq.{drop-cons}

pub taken_next : {A : Type 0} (xs : List A) (i : ℕ) (x : A) → i < length xs → x ≡ get_or xs i x → take (i + 1) xs ≡ take i xs ++ x ∷ []
taken_next [] i x h is = absurd (omega arith)
taken_next (y ∷ ys) zero x h is = ap (λ z. z ∷ []) (sym is)
taken_next (y ∷ ys) (suc i) x h is =
    let e : suc i + 1 ≡ suc (i + 1) = omega arith in
    let k : take (i + 1) ys ≡ take i ys ++ x ∷ [] = taken_next ys i x (omega arith) is in
    rw e (ap (λ zs. y ∷ zs) k)

-- what is read of what is seen
pub thrice : {A B C D : Type 0} (f : C → D) (g : B → C) (h : A → B) (xs : List A) → map f (map g (map h xs)) ≡ map (λ x. f (g (h x))) xs
thrice f g h [] = refl
thrice f g h (x ∷ xs) = ap (λ ys. f (g (h x)) ∷ ys) (thrice f g h xs)

-- what is left of a list begins with its element at the index
pub left_over : {X A : Type 0} (view : X → A) (xs : List X) (i : ℕ) (x : X) → i < length xs → x ≡ get_or xs i x → map view (drop i xs) ≡ view x ∷ map view (drop (i + 1) xs)
left_over view xs i x h is =
    let e : drop i xs ≡ x ∷ drop (i + 1) xs = rw add-one (drop-cons xs i x h ∙ ap (λ y. y ∷ drop (suc i) xs) (sym is)) in
    ap (map view) e

-- what holds of all that is seen holds of what is seen at an index
pub all_at : {X A : Type 0} (P : A → Type 0) (view : X → A) (xs : List X) (i : ℕ) (x : X) → AllByRecursion P (map view xs) → i < length xs → x ≡ get_or xs i x → P (view x)
all_at P view [] i x h k is = absurd (omega arith)
all_at P view (y ∷ ys) zero x h k is = subst (λ z. P (view z)) (sym is) h.0
all_at P view (y ∷ ys) (suc i) x h k is = all_at P view ys i x h.1 (omega arith) is
