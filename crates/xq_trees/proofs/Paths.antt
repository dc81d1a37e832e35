-- A node's path and its place.
use Rattle.std.proofs.Common.{◌≡◌, ℕ, zero, suc, ◌+◌, ◌-◌, ◌<◌, ◌≤◌, List, [], ◌∷◌, ◌⊎◌, inl, inr, leb, Bool, true, false, cond, refl, ◌∙◌, ap, arith}
use Rattle.std.proofs.lemmas.Bool.{le-leb}
use Rattle.std.proofs.lemmas.Bool.Decides.{leb_tells}
use Rattle.xq_trees.specs.Forest.{Forest, end, node, count}
use Rattle.xq_trees.specs.Node.{HasPath, below_at}
use Rattle.xq_trees.specs.Order.{place_of, path_at, step_down, step_right, IsAbove, IsLeftOf}

gt-leb : (a b : ℕ) → b < a → leb a b ≡ false
gt-leb a b h = elim (leb_tells a b) [ inl e ↦ absurd (omega (arith, e.1)) | inr e ↦ e.0 ]

pub place_lt : {A : Type 0} (f : Forest A) (p : List ℕ) → HasPath f p → place_of f p < count f
place_lt end p h = absurd h
place_lt (node a k r) [] h = absurd h
place_lt (node a k r) (zero ∷ []) h = omega arith
place_lt (node a k r) (zero ∷ i ∷ p) h = omega (arith, place_lt k (i ∷ p) h)
place_lt (node a k r) (suc i ∷ p) h = omega (arith, place_lt r (i ∷ p) h)

pub path_at-place_of : {A : Type 0} (f : Forest A) (p : List ℕ) → HasPath f p → path_at f (place_of f p) ≡ p
path_at-place_of end p h = absurd h
path_at-place_of (node a k r) [] h = absurd h
path_at-place_of (node a k r) (zero ∷ []) h = refl
path_at-place_of (node a k r) (zero ∷ i ∷ p) h =
    let e : leb (suc (place_of k (i ∷ p))) (count k) ≡ true = le-leb _ _ (place_lt k (i ∷ p) h) in
    ap (λ b. cond b (step_down (path_at k (place_of k (i ∷ p)))) (step_right (path_at r (place_of k (i ∷ p) - count k)))) e
    ∙ ap (λ l. zero ∷ l) (path_at-place_of k (i ∷ p) h)
path_at-place_of (node a k r) (suc i ∷ p) h =
    let n = count k + place_of r (i ∷ p) in
    let e : leb (suc n) (count k) ≡ false = gt-leb (suc n) (count k) (omega arith) in
    let m : n - count k ≡ place_of r (i ∷ p) = omega arith in
    ap (λ b. cond b (step_down (path_at k n)) (step_right (path_at r (n - count k)))) e
    ∙ ap (λ x. step_right (path_at r x)) m
    ∙ ap step_right (path_at-place_of r (i ∷ p) h)

pub down : {A : Type 0} (a : A) (k r : Forest A) (p : List ℕ) → HasPath k p → HasPath (node a k r) (zero ∷ p) × (place_of (node a k r) (zero ∷ p) ≡ suc (place_of k p))
down a end r p h = absurd h
down a (node b l s) r [] h = absurd h
down a (node b l s) r (i ∷ p) h = (h, refl)

pub right : {A : Type 0} (a : A) (k r : Forest A) (p : List ℕ) → HasPath r p → HasPath (node a k r) (step_right p) × (place_of (node a k r) (step_right p) ≡ suc (count k + place_of r p))
right a k end p h = absurd h
right a k (node b l s) [] h = absurd h
right a k (node b l s) (i ∷ p) h = (h, refl)

-- the node at a place: its path exists, and leads back to the place
pub record IsAt {A : Type 0} (f : Forest A) (n : ℕ) (p : List ℕ) : Type 0 where
  pub exists : HasPath f p
  pub place : place_of f p ≡ n

-- in the node's rows, or to the right of them
place_cases : {A : Type 0} (a : A) (k r : Forest A) (n : ℕ) (b : Bool) → ((b ≡ true) × (suc n ≤ count k)) ⊎ ((b ≡ false) × (count k < suc n)) → suc n < count (node a k r) → (n < count k → IsAt k n (path_at k n)) → (n - count k < count r → IsAt r (n - count k) (path_at r (n - count k))) → IsAt (node a k r) (suc n) (cond b (step_down (path_at k n)) (step_right (path_at r (n - count k))))
place_cases a k r n true (inl e) h in_k in_r =
    let w = in_k e.1 in
    let d = down a k r (path_at k n) w.exists in
    record { exists = d.0; place = d.1 ∙ ap suc w.place }
place_cases a k r n true (inr e) h in_k in_r = absurd (cc)
place_cases a k r n false (inl e) h in_k in_r = absurd (cc)
place_cases a k r n false (inr e) h in_k in_r =
    let w = in_r (omega (arith, e.1)) in
    let d = right a k r (path_at r (n - count k)) w.exists in
    record { exists = d.0; place = omega (arith, d.1, w.place, e.1) }

pub at_place : {A : Type 0} (f : Forest A) (n : ℕ) → n < count f → IsAt f n (path_at f n)
at_place end n h = absurd (omega arith)
at_place (node a k r) zero h = record { exists = tt; place = refl }
at_place (node a k r) (suc n) h = place_cases a k r n (leb (suc n) (count k)) (leb_tells (suc n) (count k)) h (λ l. at_place k n l) (λ l. at_place r (n - count k) l)

-- a node below another stands within its rows
pub above_within : {A : Type 0} (f : Forest A) (p q : List ℕ) → HasPath f p → HasPath f q → IsAbove p q → (place_of f p < place_of f q) × (place_of f q ≤ place_of f p + count (below_at f p))
above_within end p q hp hq h = absurd hp
above_within (node a k r) [] q hp hq h = absurd hp
above_within (node a k r) (i ∷ p) [] hp hq h = absurd hq
above_within (node a k r) (zero ∷ []) (zero ∷ []) hp hq h = absurd h.1
above_within (node a k r) (zero ∷ []) (zero ∷ j ∷ q) hp hq h = let l = place_lt k (j ∷ q) hq in (omega arith, omega arith)
above_within (node a k r) (zero ∷ p) (suc j ∷ q) hp hq h = absurd (omega (arith, h.0))
above_within (node a k r) (zero ∷ i ∷ p) (zero ∷ []) hp hq h = absurd h.1
above_within (node a k r) (zero ∷ i ∷ p) (zero ∷ j ∷ q) hp hq h = let w = above_within k (i ∷ p) (j ∷ q) hp hq h.1 in (omega (arith, w.0), omega (arith, w.1))
above_within (node a k r) (suc i ∷ p) (zero ∷ q) hp hq h = absurd (omega (arith, h.0))
above_within (node a k r) (suc i ∷ p) (suc j ∷ q) hp hq h = let w = above_within r (i ∷ p) (j ∷ q) hp hq (omega (arith, h.0), h.1) in (omega (arith, w.0), omega (arith, w.1))

-- a node's rows end within the forest
pub within : {A : Type 0} (f : Forest A) (p : List ℕ) → HasPath f p → place_of f p + count (below_at f p) < count f
within end p h = absurd h
within (node a k r) [] h = absurd h
within (node a k r) (zero ∷ []) h = omega arith
within (node a k r) (zero ∷ i ∷ p) h = omega (arith, within k (i ∷ p) h)
within (node a k r) (suc i ∷ p) h = omega (arith, within r (i ∷ p) h)

-- a node to the left of another has all its rows before it
pub left_before : {A : Type 0} (f : Forest A) (p q : List ℕ) → HasPath f p → HasPath f q → IsLeftOf p q → place_of f p + count (below_at f p) < place_of f q
left_before end p q hp hq h = absurd hp
left_before (node a k r) [] q hp hq h = absurd hp
left_before (node a k r) (i ∷ p) [] hp hq h = absurd hq
left_before (node a k r) (zero ∷ []) (zero ∷ q) hp hq h = elim h [ inl l ↦ absurd (omega arith) | inr e ↦ absurd e.1 ]
left_before (node a k r) (zero ∷ []) (suc j ∷ q) hp hq h = omega arith
left_before (node a k r) (zero ∷ i ∷ p) (zero ∷ []) hp hq h = elim h [ inl l ↦ absurd (omega arith) | inr e ↦ absurd e.1 ]
left_before (node a k r) (zero ∷ i ∷ p) (zero ∷ j ∷ q) hp hq h =
    let w : IsLeftOf (i ∷ p) (j ∷ q) = elim h [ inl l ↦ absurd (omega arith) | inr e ↦ e.1 ] in
    omega (arith, left_before k (i ∷ p) (j ∷ q) hp hq w)
left_before (node a k r) (zero ∷ i ∷ p) (suc j ∷ q) hp hq h = omega (arith, within k (i ∷ p) hp)
left_before (node a k r) (suc i ∷ p) (zero ∷ q) hp hq h = elim h [ inl l ↦ absurd (omega arith) | inr e ↦ absurd (omega (arith, e.0)) ]
left_before (node a k r) (suc i ∷ p) (suc j ∷ q) hp hq h =
    let w : IsLeftOf (i ∷ p) (j ∷ q) = elim h [ inl l ↦ inl (omega arith) | inr e ↦ inr (omega (arith, e.0), e.1) ] in
    omega (arith, left_before r (i ∷ p) (j ∷ q) hp hq w)
