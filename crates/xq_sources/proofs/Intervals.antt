-- The elements between two places are a part of a list.
use Rattle.std.proofs.Common.{◌≡◌, ℕ, zero, suc, ◌+◌, ◌-◌, ◌<◌, ◌≤◌, List, [], ◌∷◌, take, drop, Bool, true, false, refl, ◌∙◌, ap, arith}
use Rattle.std.specs.Prelude.{filter, cond, nat_le, ◌&&◌}
use Rattle.std.specs.List.{enumerate_from}
use Rattle.std.proofs.lemmas.Bool.{and_left, and_right, lt-leb, le-leb}
use Rattle.xq_trees.specs.Rows.{Row}
use Rattle.xq_sources.specs.Sources.{is_between}

filter-keeps : {X : Type 0} (p : X → Bool) (x : X) (xs : List X) → p x ≡ true → filter p (x ∷ xs) ≡ x ∷ filter p xs
filter-keeps p x xs h = ap (λ b. cond b (x ∷ filter p xs) (filter p xs)) h

filter-drops : {X : Type 0} (p : X → Bool) (x : X) (xs : List X) → p x ≡ false → filter p (x ∷ xs) ≡ filter p xs
filter-drops p x xs h = ap (λ b. cond b (x ∷ filter p xs) (filter p xs)) h

-- equal lists of rows with their places
abbrev Same : List (ℕ × Row) → List (ℕ × Row) → Type 0
Same xs ys = xs ≡ ys

both : {a b : Bool} → a ≡ true → b ≡ true → (a && b) ≡ true
both h k = rw (h, k)

take-none : (n : ℕ) → Same [] (take n [])
take-none zero = refl
take-none (suc n) = refl

none-beyond : (n low high : ℕ) (rs : List Row) → high < n → filter (is_between low high) (enumerate_from n rs) ≡ []
none-beyond n low high [] h = refl
none-beyond n low high (r ∷ rs) h =
    filter-drops (is_between low high) (n, r) (enumerate_from (n + 1) rs) (and_right (nat_le low n) (nat_le n high) (lt-leb n high h))
    ∙ none-beyond (n + 1) low high rs (omega (arith, h))

first-places : (k n low high : ℕ) (rs : List Row) → low ≤ n → k ≡ high + 1 - n → filter (is_between low high) (enumerate_from n rs) ≡ take k (enumerate_from n rs)
first-places zero n low high rs h e = none-beyond n low high rs (omega (arith, h, e))
first-places (suc k) n low high [] h e = refl
first-places (suc k) n low high (r ∷ rs) h e =
    filter-keeps (is_between low high) (n, r) (enumerate_from (n + 1) rs) (both (le-leb low n h) (le-leb n high (omega (arith, e))))
    ∙ ap (λ xs. (n, r) ∷ xs) (first-places k (n + 1) low high rs (omega (arith, h)) (omega (arith, e)))

pub between-places : (d n low high : ℕ) (rs : List Row) → low ≡ n + d → filter (is_between low high) (enumerate_from n rs) ≡ take (high + 1 - low) (drop d (enumerate_from n rs))
between-places zero n low high rs e = first-places (high + 1 - low) n low high rs (omega (arith, e)) (omega (arith, e))
between-places (suc d) n low high [] e = take-none (high + 1 - low)
between-places (suc d) n low high (r ∷ rs) e =
    filter-drops (is_between low high) (n, r) (enumerate_from (n + 1) rs) (and_left (nat_le low n) (nat_le n high) (lt-leb low n (omega (arith, e))))
    ∙ between-places d (n + 1) low high rs (omega (arith, e))
