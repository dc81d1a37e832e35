-- The axes are ranges of rows.
use Rattle.std.proofs.Common.{◌≡◌, ◌↔◌, ℕ, zero, suc, ◌+◌, ◌<◌, ◌≤◌, List, [], ◌∷◌, ◌++◌, length, get_or, ◌⊎◌, inl, inr, refl, sym, ◌∙◌, ap, subst, arith}
use Rattle.std.proofs.Math.ListN.{get_or-append}
use Rattle.std.proofs.lemmas.List.{get_or-append-add, length-append}
use Rattle.std.proofs.lemmas.Bool.Decides.{leb_tells}
use Rattle.xq_trees.specs.Forest.{Forest, end, node, count, labels}
use Rattle.xq_trees.specs.Tree.{Label, no_label}
use Rattle.xq_trees.specs.Node.{HasPath, below_at, label_at}
use Rattle.xq_trees.specs.Order.{place_of, path_at, IsBefore, IsAbove, IsLeftOf}
use Rattle.xq_trees.specs.Rows.{Row, measured, no_row, row_at}
use Rattle.xq_trees.specs.Nesting.{count-measured}
use Rattle.xq_trees.proofs.Paths.{place_lt, path_at-place_of, above_within, left_before}

pub length-labels : {A : Type 0} (f : Forest A) → length (labels f) ≡ count f
length-labels end = refl
length-labels (node a k r) = ap suc (length-append (labels k) (labels r) ∙ (let e = length-labels k in let g = length-labels r in omega arith))

-- the label at a path stands at its place
pub get_or-labels : {A : Type 0} (d : A) (f : Forest A) (p : List ℕ) → HasPath f p → get_or (labels f) (place_of f p) d ≡ label_at d f p
get_or-labels d end p h = absurd h
get_or-labels d (node a k r) [] h = absurd h
get_or-labels d (node a k r) (zero ∷ []) h = refl
get_or-labels d (node a k r) (zero ∷ i ∷ p) h =
    let l : place_of k (i ∷ p) < length (labels k) = (let e = length-labels k in let b = place_lt k (i ∷ p) h in omega arith) in
    get_or-append (labels k) (labels r) d (place_of k (i ∷ p)) l ∙ get_or-labels d k (i ∷ p) h
get_or-labels d (node a k r) (suc i ∷ p) h =
    ap (λ n. get_or (labels k ++ labels r) (n + place_of r (i ∷ p)) d) (sym (length-labels k))
    ∙ get_or-append-add (labels k) (labels r) (place_of r (i ∷ p)) d
    ∙ get_or-labels d r (i ∷ p) h

pub place_of-measured : (l : ℕ) (f : Forest Label) (p : List ℕ) → place_of (measured l f) p ≡ place_of f p
place_of-measured l end p = refl
place_of-measured l (node a k r) [] = refl
place_of-measured l (node a k r) (zero ∷ []) = refl
place_of-measured l (node a k r) (zero ∷ i ∷ p) = ap suc (place_of-measured (suc l) k (i ∷ p))
place_of-measured l (node a k r) (suc i ∷ p) = ap suc (rw (count-measured (suc l) k, place_of-measured l r (i ∷ p)))

pub HasPath-measured : (l : ℕ) (f : Forest Label) (p : List ℕ) → HasPath f p → HasPath (measured l f) p
HasPath-measured l end p h = h
HasPath-measured l (node a k r) [] h = h
HasPath-measured l (node a k r) (zero ∷ []) h = h
HasPath-measured l (node a k r) (zero ∷ i ∷ p) h = HasPath-measured (suc l) k (i ∷ p) h
HasPath-measured l (node a k r) (suc i ∷ p) h = HasPath-measured l r (i ∷ p) h

-- what a row says of its node
pub record Describes (f : Forest Label) (l : ℕ) (p : List ℕ) (row : Row) : Type 0 where
  pub size : row.size ≡ count (below_at f p)
  pub level : suc row.level ≡ l + length p
  pub label : row.label ≡ label_at no_label f p

pub label_at-measured : (l : ℕ) (f : Forest Label) (p : List ℕ) → HasPath f p → Describes f l p (label_at no_row (measured l f) p)
label_at-measured l end p h = absurd h
label_at-measured l (node a k r) [] h = absurd h
label_at-measured l (node a k r) (zero ∷ []) h = record { size = refl; level = omega arith; label = refl }
label_at-measured l (node a k r) (zero ∷ i ∷ p) h =
    let w = label_at-measured (suc l) k (i ∷ p) h in
    record { size = w.size; level = (let e = w.level in omega arith); label = w.label }
label_at-measured l (node a k r) (suc i ∷ p) h =
    let w = label_at-measured l r (i ∷ p) h in
    record { size = w.size; level = w.level; label = w.label }

-- the row at a node's place describes the node
pub row_at-place_of : (l : ℕ) (f : Forest Label) (p : List ℕ) → HasPath f p → Describes f l p (row_at (labels (measured l f)) (place_of f p))
row_at-place_of l f p h =
    let e : get_or (labels (measured l f)) (place_of f p) no_row ≡ label_at no_row (measured l f) p =
    ap (λ n. get_or (labels (measured l f)) n no_row) (sym (place_of-measured l f p)) ∙ get_or-labels no_row (measured l f) p (HasPath-measured l f p h) in
    subst (Describes f l p) (sym e) (label_at-measured l f p h)

-- how two paths stand to each other
pub data Meeting (p q : List ℕ) : Type 0 where
  same : p ≡ q → Meeting p q
  above : IsAbove p q → Meeting p q
  below : IsAbove q p → Meeting p q
  left : IsLeftOf p q → Meeting p q
  right : IsLeftOf q p → Meeting p q

step_meeting : (i j : ℕ) (p q : List ℕ) → i ≡ j → Meeting p q → Meeting (i ∷ p) (j ∷ q)
step_meeting i j p q e (same h) = same (rw (e, h))
step_meeting i j p q e (above h) = above (e, h)
step_meeting i j p q e (below h) = below (sym e, h)
step_meeting i j p q e (left h) = left (inr (e, h))
step_meeting i j p q e (right h) = right (inr (sym e, h))

pub meeting : (p q : List ℕ) → Meeting p q
meeting [] [] = same refl
meeting [] (j ∷ q) = above tt
meeting (i ∷ p) [] = below tt
meeting (i ∷ p) (j ∷ q) =
    let m = meeting p q in
    elim (leb_tells (suc i) j) [
      | inl lt ↦ left (inl lt.1)
      | inr ge ↦ elim (leb_tells (suc j) i) [
        | inl gt ↦ right (inl gt.1)
        | inr le ↦ step_meeting i j p q (omega (arith, ge.1, le.1)) m
      ]
    ]

-- places tell how paths stand to each other
pub record Places (f : Forest Label) (p q : List ℕ) : Type 0 where
  pub same : p ≡ q ↔ place_of f p ≡ place_of f q
  pub above : IsAbove p q ↔ (place_of f p < place_of f q) × (place_of f q ≤ place_of f p + count (below_at f p))
  pub left : IsLeftOf p q ↔ place_of f p + count (below_at f p) < place_of f q

pub places : (f : Forest Label) (p q : List ℕ) → HasPath f p → HasPath f q → Places f p q
places f p q hp hq = record {
  same = (ap (place_of f), λ e. sym (path_at-place_of f p hp) ∙ ap (path_at f) e ∙ path_at-place_of f q hq);
  above = (above_within f p q hp hq, λ h. is_above (meeting p q) h);
  left = (left_before f p q hp hq, λ h. is_left (meeting p q) h);
}
  where
    is_above : Meeting p q → (place_of f p < place_of f q) × (place_of f q ≤ place_of f p + count (below_at f p)) → IsAbove p q
    is_above (same e) h = let g = ap (place_of f) e in absurd (omega (arith, h.0))
    is_above (above a) h = a
    is_above (below a) h = let g = above_within f q p hq hp a in absurd (omega (arith, h.0, g.0))
    is_above (left a) h = let g = left_before f p q hp hq a in absurd (omega (arith, h.1))
    is_above (right a) h = let g = left_before f q p hq hp a in absurd (omega (arith, h.0))

    is_left : Meeting p q → place_of f p + count (below_at f p) < place_of f q → IsLeftOf p q
    is_left (same e) h = let g = ap (place_of f) e in absurd (omega arith)
    is_left (above a) h = let g = above_within f p q hp hq a in absurd (omega (arith, g.1))
    is_left (below a) h = let g = above_within f q p hq hp a in absurd (omega (arith, g.0))
    is_left (left a) h = a
    is_left (right a) h = let g = left_before f q p hq hp a in absurd (omega arith)

-- document order is that of the places
pub IsBefore-cases : (p q : List ℕ) → IsBefore p q ↔ (IsAbove p q ⊎ IsLeftOf p q)
IsBefore-cases p q = (to p q, from p q)
  where
    to : (p q : List ℕ) → IsBefore p q → IsAbove p q ⊎ IsLeftOf p q
    to [] [] h = absurd h
    to [] (j ∷ q) h = inl tt
    to (i ∷ p) [] h = absurd h
    to (i ∷ p) (j ∷ q) h = elim h [ inl l ↦ inr (inl l) | inr e ↦ elim (to p q e.1) [ inl a ↦ inl (e.0, a) | inr a ↦ inr (inr (e.0, a)) ] ]

    from : (p q : List ℕ) → IsAbove p q ⊎ IsLeftOf p q → IsBefore p q
    from [] [] h = elim h [ inl a ↦ a | inr a ↦ a ]
    from [] (j ∷ q) h = tt
    from (i ∷ p) [] h = elim h [ inl a ↦ a | inr a ↦ a ]
    from (i ∷ p) (j ∷ q) h = elim h [ inl a ↦ inr (a.0, from p q (inl a.1)) | inr a ↦ elim a [ inl l ↦ inl l | inr e ↦ inr (e.0, from p q (inr e.1)) ] ]

pub before_by_place : (f : Forest Label) (p q : List ℕ) → HasPath f p → HasPath f q → IsBefore p q ↔ (place_of f p < place_of f q)
before_by_place f p q hp hq =
    let w = places f p q hp hq in (
      λ h. elim ((IsBefore-cases p q).0 h) [ inl a ↦ (w.above.0 a).0 | inr a ↦ (let g = w.left.0 a in omega arith) ],
      λ h. (IsBefore-cases p q).1 (elim (leb_tells (place_of f q) (place_of f p + count (below_at f p))) [ inl e ↦ inl (w.above.1 (h, e.1)) | inr e ↦ inr (w.left.1 (omega (arith, e.1))) ]),
    )
