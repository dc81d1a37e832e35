-- Rows that hold each other.
use Rattle.std.proofs.Common.{◌≡◌, ℕ, zero, suc, ◌<◌, ◌≤◌, List, [], ◌∷◌, length, inl, inr, refl, sym, ◌∙◌, ap, subst, arith}
use Rattle.std.proofs.lemmas.Bool.{cases_lt, cases_order}
use Rattle.xq_trees.specs.Forest.{Forest, end, node, count}
use Rattle.xq_trees.specs.Tree.{Tree, nodes}
use Rattle.xq_trees.specs.Node.{HasPath}
use Rattle.xq_trees.specs.Order.{place_of, path_at, IsAbove}
use Rattle.xq_trees.specs.Rows.{rows, row_at}
use Rattle.xq_trees.specs.Regions.{IsInside}
use Rattle.xq_trees.proofs.AxisRegions.{located}
use Rattle.xq_axes.specs.private.Downward.{level_of, end_of}
use Rattle.xq_axes.specs.private.Waiting.{IsParent}
use Rattle.xq_axes.proofs.Sizes.{node_of}

above_longer : (p q : List ℕ) → IsAbove p q → length p < length q
above_longer p [] h = absurd h
above_longer [] (j ∷ q) h = omega arith
above_longer (i ∷ p) (j ∷ q) h = omega (arith, above_longer p q h.1)

above_trans : (p q r : List ℕ) → IsAbove p q → IsAbove q r → IsAbove p r
above_trans p [] r h g = absurd h
above_trans p (j ∷ q) [] h g = absurd g
above_trans [] (j ∷ q) (k ∷ r) h g = tt
above_trans (i ∷ p) (j ∷ q) (k ∷ r) h g = (h.0 ∙ g.0, above_trans p q r h.1 g.1)

module _ (t : Tree) (u v : ℕ) (hu : u < count (nodes t)) (hv : v < count (nodes t)) where
  paths_above : IsInside (rows t) u v → IsAbove (path_at (nodes t) u) (path_at (nodes t) v)
  paths_above h =
      let a = node_of t u hu in
      let b = node_of t v hv in
      (located t (path_at (nodes t) u) (path_at (nodes t) v) a.exists b.exists).inside.1
      (subst (λ i. IsInside (rows t) i (place_of (nodes t) (path_at (nodes t) v))) (sym a.place) (subst (λ j. IsInside (rows t) u j) (sym b.place) h))

  rows_inside : IsAbove (path_at (nodes t) u) (path_at (nodes t) v) → IsInside (rows t) u v
  rows_inside h =
      let a = node_of t u hu in
      let b = node_of t v hv in
      subst (λ j. IsInside (rows t) u j) b.place (subst (λ i. IsInside (rows t) i (place_of (nodes t) (path_at (nodes t) v))) a.place
      ((located t (path_at (nodes t) u) (path_at (nodes t) v) a.exists b.exists).inside.0 h))

  -- what is inside is deeper
  pub inside_deeper : IsInside (rows t) u v → level_of t u < level_of t v
  inside_deeper h =
      let a = (node_of t u hu).level in
      let b = (node_of t v hv).level in
      let l = above_longer (path_at (nodes t) u) (path_at (nodes t) v) (paths_above h) in
      omega (arith, a, b, l)

pub inside_trans : (t : Tree) (u v w : ℕ) → w < count (nodes t) → IsInside (rows t) u v → IsInside (rows t) v w → IsInside (rows t) u w
inside_trans t u v w hw h g =
    let hv : v < count (nodes t) = (let x = g.0 in omega arith) in
    let hu : u < count (nodes t) = (let x = h.0 in omega arith) in
    rows_inside t u w hu hw (above_trans (path_at (nodes t) u) (path_at (nodes t) v) (path_at (nodes t) w) (paths_above t u v hu hv h) (paths_above t v w hv hw g))

-- and ends there
pub inside_ends : (t : Tree) (u v : ℕ) → v < count (nodes t) → IsInside (rows t) u v → end_of t v ≤ end_of t u
inside_ends t u v hv h =
    let w = (node_of t v hv).ends in
    elim (cases_lt 0 (row_at (rows t) v).size) [
      | inl some ↦ (let x = inside_trans t u v (end_of t v) (omega (arith, w)) h (omega (arith, some), omega arith) in x.1)
      | inr none ↦ (let x = h.1 in omega (arith, none, x))
    ]

-- # The parent

front : List ℕ → List ℕ
front [] = []
front (i ∷ []) = []
front (i ∷ j ∷ p) = i ∷ front (j ∷ p)

front_above : (i : ℕ) (p : List ℕ) → IsAbove (front (i ∷ p)) (i ∷ p)
unfolding front
front_above i [] = tt
front_above i (j ∷ p) = (refl, front_above j p)

length-front : (i : ℕ) (p : List ℕ) → suc (length (front (i ∷ p))) ≡ length (i ∷ p)
unfolding front
length-front i [] = refl
length-front i (j ∷ p) = ap suc (length-front j p)

front_exists : {A : Type 0} (f : Forest A) (i j : ℕ) (p : List ℕ) → HasPath f (i ∷ j ∷ p) → HasPath f (front (i ∷ j ∷ p))
unfolding front
front_exists end i j p h = h
front_exists (node a k r) zero j [] h = tt
front_exists (node a k r) zero j (l ∷ p) h = front_exists k j l p h
front_exists (node a k r) (suc i) j p h = front_exists r i j p h

pub record HasParent (t : Tree) (v : ℕ) : Type 0 where
  pub parent : ℕ
  pub is : IsParent t parent v

pub parent_of : (t : Tree) (v : ℕ) → v < count (nodes t) → 0 < level_of t v → HasParent t v
parent_of t v hv l = by_path (path_at (nodes t) v) refl
  where
    by_path : (p : List ℕ) → path_at (nodes t) v ≡ p → HasParent t v
    by_path [] e = absurd (let d = (node_of t v hv).level in let z = ap length e in omega (arith, d, z))
    by_path (i ∷ []) e = absurd (let d = (node_of t v hv).level in let z = ap length e in omega (arith, d, z, l))
    by_path (i ∷ j ∷ p) e =
        let d = node_of t v hv in
        let q = front (i ∷ j ∷ p) in
        let hp : HasPath (nodes t) (i ∷ j ∷ p) = subst (HasPath (nodes t)) e d.exists in
        let hq : HasPath (nodes t) q = front_exists (nodes t) i j p hp in
        let w = located t q (i ∷ j ∷ p) hq hp in
        let pv : place_of (nodes t) (i ∷ j ∷ p) ≡ v = ap (place_of (nodes t)) (sym e) ∙ d.place in
        record {
          parent = place_of (nodes t) q;
          is = record {
            inside = subst (λ n. IsInside (rows t) (place_of (nodes t) q) n) pv (w.inside.0 (front_above i (j ∷ p)));
            level = subst (λ n. level_of t n ≡ suc (level_of t (place_of (nodes t) q))) pv (w.below_one.0 (sym (length-front i (j ∷ p))));
          };
        }

-- rows between a row and one that it holds are deeper than it
pub between_deeper : (t : Tree) (u v q : ℕ) → v < count (nodes t) → IsInside (rows t) u v → u < q → q ≤ v → level_of t u < level_of t q
between_deeper t u v q hv h a b =
    let x = h.1 in
    inside_deeper t u q (omega (arith, a, b, hv)) (omega (arith, b, hv)) (a, omega (arith, b, x))

-- a node has one parent
pub one_parent : (t : Tree) (u w v : ℕ) → v < count (nodes t) → IsParent t u v → IsParent t w v → u ≡ w
one_parent t u w v hv p q =
    elim (cases_order u w) [
      | inl e ↦ e
      | inr apart ↦ elim apart [
        | inl l ↦ absurd (let d = between_deeper t u v w hv p.inside l (let x = q.inside.0 in omega arith) in let a = p.level in let b = q.level in omega (arith, d, a, b))
        | inr g ↦ absurd (let d = between_deeper t w v u hv q.inside g (let x = p.inside.0 in omega arith) in let a = p.level in let b = q.level in omega (arith, d, a, b))
      ]
    ]
