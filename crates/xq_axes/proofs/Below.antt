-- The rows below a row are those of the nodes below its node.
use Rattle.std.proofs.Common.{◌≡◌, ℕ, zero, suc, ◌+◌, ◌≤◌, List, [], ◌∷◌, ◌++◌, length, take, drop, refl, sym, ◌∙◌, ap, arith, append_assoc}
use Rattle.std.specs.List.{flat_map}
use Rattle.std.proofs.lemmas.List.{take-append-le, take_at}
use Rattle.xq_trees.specs.Forest.{Forest, end, node, count, labels}
use Rattle.xq_trees.specs.Tree.{Label}
use Rattle.xq_trees.specs.Node.{HasPath, below_at}
use Rattle.xq_trees.specs.Order.{place_of}
use Rattle.xq_trees.specs.Rows.{measured}
use Rattle.xq_trees.specs.Nesting.{count-measured}
use Rattle.xq_trees.specs.Value.{text_of, texts}
use Rattle.xq_trees.proofs.Paths.{within}
use Rattle.xq_trees.proofs.Regions.{length-labels}
use Rattle.xq_axes.specs.Reads.{joined_texts}

part-right : {A : Type 0} (xs ys : List A) (c n m i j : ℕ) → length xs ≡ c → n ≡ c + i → m ≡ c + j → drop n (take m (xs ++ ys)) ≡ drop i (take j ys)
part-right [] ys c n m i j l e g =
    let a : n ≡ i = omega (arith, l, e) in
    let b : m ≡ j = omega (arith, l, g) in
    rw (a, b)
part-right (x ∷ xs) ys c zero m i j l e g = absurd (omega (arith, l, e))
part-right (x ∷ xs) ys c (suc n) zero i j l e g = absurd (omega (arith, l, g))
part-right (x ∷ xs) ys zero (suc n) (suc m) i j l e g = absurd (omega (arith, l))
part-right (x ∷ xs) ys (suc c) (suc n) (suc m) i j l e g = part-right xs ys c n m i j (omega (arith, l)) (omega (arith, e)) (omega (arith, g))

part-left : {A : Type 0} (xs ys : List A) (n m : ℕ) → m ≤ length xs → drop n (take m (xs ++ ys)) ≡ drop n (take m xs)
part-left xs ys n m h = ap (drop n) (take-append-le m xs ys h)

length-measured : (l : ℕ) (f : Forest Label) → length (labels (measured l f)) ≡ count f
length-measured l f = length-labels (measured l f) ∙ count-measured l f

pub below_rows : (l : ℕ) (f : Forest Label) (p : List ℕ) (n m : ℕ) → HasPath f p → n ≡ suc (place_of f p) → m ≡ n + count (below_at f p) → drop n (take m (labels (measured l f))) ≡ labels (measured (l + length p) (below_at f p))
below_rows l end p n m h e g = absurd h
below_rows l (node a k r) [] n m h e g = absurd h
below_rows l (node a k r) (zero ∷ p) zero m h e g = absurd (omega (arith, e))
below_rows l (node a k r) (zero ∷ p) (suc n) zero h e g = absurd (omega (arith, g))
below_rows l (node a k r) (zero ∷ []) (suc n) (suc m) h e g =
    let z : n ≡ 0 = omega (arith, e) in
    let c : length (labels (measured (suc l) k)) ≡ m = length-measured (suc l) k ∙ (let q : count k ≡ m = omega (arith, e, g) in q) in
    let d : suc l ≡ l + 1 = omega arith in
    ap (λ i. drop i (take m (labels (measured (suc l) k) ++ labels (measured l r)))) z
    ∙ take_at (labels (measured (suc l) k)) (labels (measured l r)) m c
    ∙ ap (λ (x : ℕ). labels (measured x k)) d
below_rows l (node a k r) (zero ∷ i ∷ p) (suc n) (suc m) h e g =
    let w = within k (i ∷ p) h in
    let c = length-measured (suc l) k in
    let d : suc l + suc (length p) ≡ l + suc (suc (length p)) = omega arith in
    part-left (labels (measured (suc l) k)) (labels (measured l r)) n m (omega (arith, w, c, e, g))
    ∙ below_rows (suc l) k (i ∷ p) n m h (omega (arith, e)) (omega (arith, e, g))
    ∙ ap (λ x. labels (measured x (below_at k (i ∷ p)))) d
below_rows l (node a k r) (suc i ∷ p) zero m h e g = absurd (omega (arith, e))
below_rows l (node a k r) (suc i ∷ p) (suc n) zero h e g = absurd (omega (arith, g))
below_rows l (node a k r) (suc i ∷ p) (suc n) (suc m) h e g =
    let q = suc (place_of r (i ∷ p)) in
    let s = q + count (below_at r (i ∷ p)) in
    part-right (labels (measured (suc l) k)) (labels (measured l r)) (count k) n m q s (length-measured (suc l) k) (omega (arith, e)) (omega (arith, e, g))
    ∙ below_rows l r (i ∷ p) q s h refl refl

flat_map-append : {A B : Type 0} (f : A → List B) (xs ys : List A) → flat_map f (xs ++ ys) ≡ flat_map f xs ++ flat_map f ys
flat_map-append f [] ys = refl
flat_map-append f (x ∷ xs) ys = ap (λ l. f x ++ l) (flat_map-append f xs ys) ∙ sym (append_assoc (f x) (flat_map f xs) (flat_map f ys))

-- the texts of the rows are those of the nodes
pub joined_texts-measured : (l : ℕ) (f : Forest Label) → joined_texts (labels (measured l f)) ≡ texts f
joined_texts-measured l end = refl
joined_texts-measured l (node a k r) =
    ap (λ ts. text_of a.kind a.value ++ ts) (flat_map-append _ (labels (measured (suc l) k)) (labels (measured l r)) ∙ (let x = joined_texts-measured (suc l) k in let y = joined_texts-measured l r in rw (x, y)))
