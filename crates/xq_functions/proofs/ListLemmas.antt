-- Judgements on each element of a list, and lists of items.
use Rattle.std.proofs.Common.{◌≡◌, ℕ, ◌+◌, ◌<◌, List, [], ◌∷◌, ◌++◌, map, take, drop, length, get_or, Ok, Err, refl, sym, ap, ◌∙◌}
use Rattle.std.proofs.lemmas.List.{map_more, drop_more, take-append-drop, map-append}
use Rattle.xq_atoms.specs.declared.refusals.Code.{Code}
use Rattle.xq_atoms.specs.Judged.{Judged, ◌>>=◌}
use Rattle.xq_meaning.specs.Arguments.{each}

bind-ok : {A : Type 0} (j : Judged (List A)) → (j >>= (λ ys. Ok ([] ++ ys))) ≡ j
bind-ok (Ok ys) = refl
bind-ok (Err code) = refl

bind-cons : {A : Type 0} (y : A) (j k : Judged (List A)) → ((j >>= (λ xs. k >>= (λ ys. Ok (xs ++ ys)))) >>= (λ xs. Ok (y ∷ xs))) ≡ ((j >>= (λ xs. Ok (y ∷ xs))) >>= (λ xs. k >>= (λ ys. Ok (xs ++ ys))))
bind-cons y (Err code) k = refl
bind-cons y (Ok xs) (Err code) = refl
bind-cons y (Ok xs) (Ok ys) = refl

each-append_step : {B : Type 0} (j : Judged B) (all xs ys : Judged (List B)) → all ≡ (xs >>= (λ as'. ys >>= (λ bs. Ok (as' ++ bs)))) → (j >>= (λ y. all >>= (λ rest. Ok (y ∷ rest)))) ≡ ((j >>= (λ y. xs >>= (λ rest. Ok (y ∷ rest)))) >>= (λ as'. ys >>= (λ bs. Ok (as' ++ bs))))
each-append_step (Err code) all xs ys e = refl
each-append_step (Ok y) all xs ys e = ap (λ j. j >>= (λ rest. Ok (y ∷ rest))) e ∙ bind-cons y xs ys

pub each-append : {A B : Type 0} (f : A → Judged B) (xs zs : List A) → each f (xs ++ zs) ≡ (each f xs >>= (λ as'. each f zs >>= (λ bs. Ok (as' ++ bs))))
each-append f [] zs = sym (bind-ok (each f zs))
each-append f (x ∷ xs) zs = each-append_step (f x) (each f (xs ++ zs)) (each f xs) (each f zs) (each-append f xs zs)

-- one element more that is as it should be
pub each-push : {A B : Type 0} (f : A → Judged B) (xs : List A) (ys : List B) (x : A) (y : B) → each f xs ≡ Ok ys → f x ≡ Ok y → each f (xs ++ x ∷ []) ≡ Ok (ys ++ y ∷ [])
each-push f xs ys x y e h = each-append f xs (x ∷ []) ∙ ap (λ j. j >>= (λ as'. each f (x ∷ []) >>= (λ bs. Ok (as' ++ bs)))) e ∙ ap (λ j. (j >>= (λ z. Ok (z ∷ []))) >>= (λ bs. Ok (ys ++ bs))) h

-- or is refused
pub each-err : {A B : Type 0} (f : A → Judged B) (xs : List A) (ys : List B) (x : A) (zs : List A) (code : Code) → each f xs ≡ Ok ys → f x ≡ Err code → each f (xs ++ x ∷ zs) ≡ Err code
each-err f xs ys x zs code e h =
    each-append f xs (x ∷ zs) ∙ ap (λ j. j >>= (λ as'. each f (x ∷ zs) >>= (λ bs. Ok (as' ++ bs)))) e ∙ ap (λ j. (j >>= (λ y. each f zs >>= (λ rest. Ok (y ∷ rest)))) >>= (λ bs. Ok (ys ++ bs))) h

-- the list around its i-th element
pub around : {A B : Type 0} (f : A → B) (xs : List A) (i : ℕ) (x : A) → i < length xs → x ≡ get_or xs i x → map f xs ≡ map f (take i xs) ++ f x ∷ map f (drop (i + 1) xs)
around f xs i x h is =
    ap (map f) (sym (take-append-drop i xs) ∙ ap (λ ys. take i xs ++ ys) (drop_more xs i x h ∙ ap (λ y. y ∷ drop (i + 1) xs) (sym is)))
    ∙ map-append f (take i xs) (x ∷ drop (i + 1) xs)

-- what follows, with the i-th element first
pub from_here : {A B : Type 0} (f : A → B) (xs : List A) (i : ℕ) (x : A) → i < length xs → x ≡ get_or xs i x → map f (drop i xs) ≡ f x ∷ map f (drop (i + 1) xs)
from_here f xs i x h is = ap (map f) (drop_more xs i x h ∙ ap (λ y. y ∷ drop (i + 1) xs) (sym is))

-- the first ones, with the i-th element
pub to_here : {A B : Type 0} (f : A → B) (xs : List A) (i : ℕ) (x : A) → i < length xs → x ≡ get_or xs i x → map f (take (i + 1) xs) ≡ map f (take i xs) ++ f x ∷ []
to_here f xs i x h is = map_more f xs i x h ∙ ap (λ y. map f (take i xs) ++ f y ∷ []) (sym is)
