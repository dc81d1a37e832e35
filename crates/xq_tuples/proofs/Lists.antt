-- Lists side by side, and one function after another on a list.
use Rattle.std.proofs.Common.{◌≡◌, ℕ, suc, ◌+◌, ◌<◌, List, [], ◌∷◌, ◌++◌, map, length, get_or, Bool, true, false, ◌&&◌, cond, refl, ap, ◌∙◌, sym, arith}
use Rattle.std.specs.List.{zip, enumerate_from, range_with_len, filter, list_all}
use Rattle.std.proofs.lemmas.List.{map-id, map-append}
use Rattle.std.proofs.lemmas.List.Elements.{filter-append}
use Rattle.std.proofs.lemmas.List.FromFn.{map-range_with_len_more}
pub use mathlib.Core.List.{map-map}
use Rattle.xq_trees.specs.Tuples.{satisfying}

pub list_all-map : {A B : Type 0} (p : B → Bool) (f : A → B) (xs : List A) → list_all p (map f xs) ≡ list_all (λ x. p (f x)) xs
list_all-map p f [] = refl
list_all-map p f (x ∷ xs) = ap (λ b. p (f x) && b) (list_all-map p f xs)

pub zip-map : {A B C D : Type 0} (f : A → C) (g : B → D) (xs : List A) (ys : List B) → zip (map f xs) (map g ys) ≡ map (λ p. (f p.0, g p.1)) (zip xs ys)
zip-map f g [] ys = refl
zip-map f g (x ∷ xs) [] = refl
zip-map f g (x ∷ xs) (y ∷ ys) = ap (λ ps. (f x, g y) ∷ ps) (zip-map f g xs ys)

pub enumerate_from-map : {A B : Type 0} (f : A → B) (n : ℕ) (xs : List A) → enumerate_from n (map f xs) ≡ map (λ p. (p.0, f p.1)) (enumerate_from n xs)
enumerate_from-map f n [] = refl
enumerate_from-map f n (x ∷ xs) = ap (λ ps. (n, f x) ∷ ps) (enumerate_from-map f (n + 1) xs)

pub enumerate_push : {A : Type 0} (n : ℕ) (xs : List A) (y : A) (m : ℕ) → m ≡ n + length xs → enumerate_from n (xs ++ y ∷ []) ≡ enumerate_from n xs ++ (m, y) ∷ []
enumerate_push n [] y m e = let same : n ≡ m = omega (arith, e) in λ i. (same i, y) ∷ []
enumerate_push n (x ∷ xs) y m e = ap (λ l. (n, x) ∷ l) (enumerate_push (n + 1) xs y m (omega (arith, e)))

pub range_more : (n : ℕ) → range_with_len 0 (n + 1) ≡ range_with_len 0 n ++ n ∷ []
range_more n = sym (map-id (range_with_len 0 (n + 1))) ∙ map-range_with_len_more (λ k. k) 0 n n (omega arith) ∙ ap (λ l. l ++ n ∷ []) (map-id (range_with_len 0 n))

-- the numbers of a list that is counted
pub numbers_in : {A : Type 0} (n : ℕ) (xs : List A) → map (λ (p : ℕ × A). p.0) (enumerate_from n xs) ≡ range_with_len n (length xs)
numbers_in n [] = refl
numbers_in n (x ∷ xs) = ap (λ l. n ∷ l) (numbers_in (n + 1) xs)

-- what f says of the elements of a list and g of their numbers
pub by_number : {A B : Type 0} (g : ℕ → B) (d : A) (all : List A) (n : ℕ) (xs : List A) → ((i : ℕ) → i < length xs → get_or all (n + i) d ≡ get_or xs i d)
    → map {B = A × B} (λ k. (get_or all k d, g k)) (range_with_len n (length xs)) ≡ map {B = A × B} (λ (p : ℕ × A). (p.1, g p.0)) (enumerate_from n xs)
by_number g d all n [] h = refl
by_number g d all n (x ∷ xs) h =
    let zero_more : n ≡ n + 0 = omega arith in
    let here : get_or all n d ≡ x = ap (λ k. get_or all k d) zero_more ∙ h 0 (omega arith) in
    let later = by_number g d all (n + 1) xs (λ i l. (let s : n + 1 + i ≡ n + suc i = omega arith in ap (λ k. get_or all k d) s ∙ h (suc i) (omega (arith, l)))) in
    λ j. (here j, g n) ∷ later j

-- counted from one more
pub enumerate_from-more : {A : Type 0} (n : ℕ) (xs : List A) → enumerate_from (n + 1) xs ≡ map (λ p. (p.0 + 1, p.1)) (enumerate_from n xs)
enumerate_from-more n [] = refl
enumerate_from-more n (x ∷ xs) = ap (λ ps. (n + 1, x) ∷ ps) (enumerate_from-more (n + 1) xs)

-- what a loop over two lists side by side has yielded, where f and g read the elements
pub zip-yielded : {A B C D : Type 0} (f : A → C) (g : B → D) (xs : List A) (ys : List B) (ps : List (A × B)) → map (λ p. p) ps ≡ zip xs ys → map (λ p. (f p.0, g p.1)) ps ≡ zip (map f xs) (map g ys)
zip-yielded f g xs ys ps e = ap (map (λ p. (f p.0, g p.1))) (sym (map-id ps) ∙ e) ∙ sym (zip-map f g xs ys)

pub zip-push : {A B : Type 0} (xs : List A) (ys : List B) (x : A) (y : B) → length xs ≡ length ys → zip (xs ++ x ∷ []) (ys ++ y ∷ []) ≡ zip xs ys ++ (x, y) ∷ []
zip-push [] [] x y e = refl
zip-push [] (y' ∷ ys) x y e = absurd (omega arith)
zip-push (x' ∷ xs) [] x y e = absurd (omega arith)
zip-push (x' ∷ xs) (y' ∷ ys) x y e = ap (λ ps. (x', y') ∷ ps) (zip-push xs ys x y (omega arith))

one_kept : {A : Type 0} (x : A) (b : Bool) → map (λ (p : A × Bool). p.0) (filter (λ p. p.1) ((x, b) ∷ [])) ≡ cond b (x ∷ []) []
one_kept x true = refl
one_kept x false = refl

pub kept-push : {A : Type 0} (xs : List A) (tests : List Bool) (x : A) (b : Bool) → length xs ≡ length tests → satisfying (xs ++ x ∷ []) (tests ++ b ∷ []) ≡ satisfying xs tests ++ cond b (x ∷ []) []
kept-push xs tests x b e =
    ap (λ ps. map (λ p. p.0) (filter (λ p. p.1) ps)) (zip-push xs tests x b e) ∙ ap (map (λ p. p.0)) (filter-append (λ p. p.1) (zip xs tests) ((x, b) ∷ [])) ∙ map-append (λ p. p.0) (filter (λ p. p.1) (zip xs tests)) _ ∙ ap (λ l. satisfying xs tests ++ l) (one_kept x b)

-- what a loop over a list and its places has yielded, where f reads the elements
pub counted-yielded : {A B : Type 0} (f : A → B) (xs : List A) (ps : List (ℕ × A)) → map (λ p. p) ps ≡ enumerate_from 0 xs → map (λ p. (p.0 + 1, f p.1)) ps ≡ enumerate_from 1 (map f xs)
counted-yielded f xs ps e =
    ap (map (λ p. (p.0 + 1, f p.1))) (sym (map-id ps) ∙ e) ∙ sym (map-map (λ p. (p.0, f p.1)) (λ p. (p.0 + 1, p.1)) (enumerate_from 0 xs)) ∙ ap (map (λ p. (p.0, f p.1))) (sym (enumerate_from-more 0 xs)) ∙ sym (enumerate_from-map f 1 xs)

pub kept-map : {A B : Type 0} (f : A → B) (xs : List A) (tests : List Bool) → map f (satisfying xs tests) ≡ satisfying (map f xs) tests
kept-map f [] tests = refl
kept-map f (x ∷ xs) [] = refl
kept-map f (x ∷ xs) (true ∷ tests) = ap (λ ys. f x ∷ ys) (kept-map f xs tests)
kept-map f (x ∷ xs) (false ∷ tests) = kept-map f xs tests
