-- Paths of all nodes of a tree, by their places.
use Rattle.std.proofs.Common.{◌≡◌, ℕ, zero, suc, ◌+◌, ◌-◌, ◌<◌, List, [], ◌∷◌, ◌++◌, map, Bool, true, false, cond, refl, sym, ◌∙◌, ap, arith}
use Rattle.std.specs.Prelude.{filter}
use Rattle.std.specs.List.{range_with_len}
use Rattle.std.proofs.lemmas.List.{map-append}
use Rattle.std.proofs.lemmas.Bool.{le-leb, lt-leb}
use Rattle.xq_trees.specs.Forest.{Forest, end, node, count}
use Rattle.xq_trees.specs.Order.{path_at, step_down, step_right}
use Rattle.xq_meaning.specs.Items.{paths}

pub map-map : {A B C : Type 0} (g : B → C) (f : A → B) (xs : List A) → map g (map f xs) ≡ map (λ x. g (f x)) xs
map-map g f [] = refl
map-map g f (x ∷ xs) = ap (λ ys. g (f x) ∷ ys) (map-map g f xs)

pub range-split : (a m n : ℕ) → range_with_len a (m + n) ≡ range_with_len a m ++ range_with_len (a + m) n
range-split a zero n =
    let e : 0 + n ≡ n = omega arith in
    let b : a ≡ a + 0 = omega arith in
    ap (range_with_len a) e ∙ ap (λ x. range_with_len x n) b
range-split a (suc m) n =
    let e : suc m + n ≡ suc (m + n) = omega arith in
    let b : a + 1 + m ≡ a + suc m = omega arith in
    ap (range_with_len a) e ∙ ap (λ xs. a ∷ xs) (range-split (a + 1) m n ∙ ap (λ x. range_with_len (a + 1) m ++ range_with_len x n) b)

map-shift : {X : Type 0} (f : ℕ → X) (a b n : ℕ) → map f (range_with_len (a + b) n) ≡ map (λ i. f (a + i)) (range_with_len b n)
map-shift f a b zero = refl
map-shift f a b (suc n) =
    let e : a + b + 1 ≡ a + (b + 1) = omega arith in
    ap (λ xs. f (a + b) ∷ xs) (ap (λ x. map f (range_with_len x n)) e ∙ map-shift f a (b + 1) n)

map-below : {X : Type 0} (f g : ℕ → X) (a n : ℕ) → ((i : ℕ) → i < a + n → f i ≡ g i) → map f (range_with_len a n) ≡ map g (range_with_len a n)
map-below f g a zero h = refl
map-below f g a (suc n) h = ap (λ x. x ∷ map f (range_with_len (a + 1) n)) (h a (omega arith)) ∙ ap (λ xs. g a ∷ xs) (map-below f g (a + 1) n (λ i l. h i (omega (arith, l))))

-- the paths of all nodes are those at all places
pub paths-range : {A : Type 0} (f : Forest A) → paths f ≡ map (path_at f) (range_with_len 0 (count f))
paths-range end = refl
paths-range (node a k r) =
    let p = path_at (node a k r) in
    let m = count k in
    let n = count r in
    let down : (i : ℕ) → i < 0 + m → step_down (path_at k i) ≡ p (1 + i) = λ i l. (
    let s : 1 + i ≡ suc i = omega arith in
    sym (ap (λ x. p x) s ∙ ap (λ b. cond b (step_down (path_at k i)) (step_right (path_at r (i - m)))) (le-leb (suc i) m (omega (arith, l))))) in
    let right : (i : ℕ) → i < 0 + n → step_right (path_at r i) ≡ p (1 + m + i) = λ i l. (
    let s : 1 + m + i ≡ suc (m + i) = omega arith in
    let d : m + i - m ≡ i = omega arith in
    sym (ap (λ x. p x) s ∙ ap (λ b. cond b (step_down (path_at k (m + i))) (step_right (path_at r (m + i - m)))) (lt-leb (suc (m + i)) m (omega arith)) ∙ ap (λ x. step_right (path_at r x)) d)) in
    let z : 0 + 1 ≡ 1 + 0 = omega arith in
    let y : 0 + 1 + m ≡ 1 + m + 0 = omega arith in
    ap (λ xs. (zero ∷ []) ∷ xs)
    (ap (λ xs. map step_down xs ++ map step_right (paths r)) (paths-range k) ∙ ap (λ xs. map step_down (map (path_at k) (range_with_len 0 m)) ++ map step_right xs) (paths-range r)
    ∙ ap (λ xs. xs ++ map step_right (map (path_at r) (range_with_len 0 n))) (map-map step_down (path_at k) (range_with_len 0 m) ∙ map-below (λ i. step_down (path_at k i)) (λ i. p (1 + i)) 0 m down ∙ sym (map-shift p 1 0 m) ∙ ap (λ x. map p (range_with_len x m)) (sym z))
    ∙ ap (λ xs. map p (range_with_len (0 + 1) m) ++ xs) (map-map step_right (path_at r) (range_with_len 0 n) ∙ map-below (λ i. step_right (path_at r i)) (λ i. p (1 + m + i)) 0 n right ∙ sym (map-shift p (1 + m) 0 n) ∙ ap (λ x. map p (range_with_len x n)) (sym y))
    ∙ sym (map-append p (range_with_len (0 + 1) m) (range_with_len (0 + 1 + m) n))
    ∙ ap (map p) (sym (range-split (0 + 1) m n)))

pub filter-map : {X Y : Type 0} (g : Y → Bool) (h : X → Y) (xs : List X) → filter g (map h xs) ≡ map h (filter (λ x. g (h x)) xs)
filter-map g h [] = refl
filter-map g h (x ∷ xs) = by (g (h x)) (filter-map g h xs)
  where
    by : (b : Bool) → filter g (map h xs) ≡ map h (filter (λ x. g (h x)) xs) → cond b (h x ∷ filter g (map h xs)) (filter g (map h xs)) ≡ map h (cond b (x ∷ filter (λ x. g (h x)) xs) (filter (λ x. g (h x)) xs))
    by true e = ap (λ ys. h x ∷ ys) e
    by false e = e
