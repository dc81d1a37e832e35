-- The parent and the siblings of a node, by levels alone.
use Rattle.std.proofs.Common.{◌≡◌, ℕ, suc, ◌<◌, ◌≤◌, [], ◌∷◌, Bool, true, false, ◌||◌, inl, inr, refl, sym, ap, subst, arith}
use Rattle.std.proofs.lemmas.Bool.{cases_lt, cases_order}
use Rattle.xq_trees.specs.Forest.{count}
use Rattle.xq_trees.specs.Tree.{Tree, nodes}
use Rattle.xq_trees.specs.Rows.{rows}
use Rattle.xq_trees.specs.Regions.{IsInside}
use Rattle.xq_trees.specs.RegionTests.{in_region}
use Rattle.xq_trees.specs.declared.Axis.{Axis}
use Rattle.xq_axes.specs.private.Hits.{is_hit}
use Rattle.xq_axes.specs.private.Downward.{level_of, end_of}
use Rattle.xq_axes.specs.private.Waiting.{IsParent}
use Rattle.xq_axes.proofs.Trees.{inside_deeper, between_deeper, parent_of}

pub one_hit : (a : Axis) (t : Tree) (v p : ℕ) → is_hit a t (v ∷ []) p ≡ in_region a (rows t) v p
one_hit a t v p = or_false (in_region a (rows t) v p)
  where
    or_false : (b : Bool) → (b || false) ≡ b
    or_false true = refl
    or_false false = refl

-- two rows of one level with no row of a lesser level between them
pub record AreBeside (t : Tree) (a b : ℕ) : Type 0 where
  pub before : a < b
  pub is_there : b < count (nodes t)
  pub same : level_of t b ≡ level_of t a
  pub some : 0 < level_of t a
  pub clear : (q : ℕ) → a < q → q < b → level_of t a ≤ level_of t q

pub record HaveParent (t : Tree) (a b : ℕ) : Type 0 where
  pub parent : ℕ
  pub of_first : IsParent t parent a
  pub of_second : IsParent t parent b

-- they have one parent
pub beside_shared : (t : Tree) (a b : ℕ) → AreBeside t a b → HaveParent t a b
beside_shared t a b h =
    let l = h.before in
    let e = h.same in
    let p = parent_of t b h.is_there (let s = h.some in omega (arith, s, e)) in
    let u = p.parent in
    let x = p.is.inside.0 in
    let y = p.is.inside.1 in
    let d = p.is.level in
    let less : u < a = elim (cases_order u a) [
      | inl same ↦ absurd (let z : level_of t u ≡ level_of t a = ap (level_of t) same in omega (arith, z, d, e))
      | inr apart ↦ elim apart [
        | inl k ↦ k
        | inr k ↦ absurd (let z = h.clear u k x in omega (arith, z, d, e))
      ]
    ] in
    record {
      parent = u;
      of_first = record { inside = (less, omega (arith, l, y)); level = omega (arith, d, e) };
      of_second = p.is;
    }

-- and the second comes after the rows of the first
pub beside_after : (t : Tree) (a b : ℕ) → AreBeside t a b → end_of t a < b
beside_after t a b h = elim (cases_lt (end_of t a) b) [
  | inl k ↦ k
  | inr k ↦ absurd (
      let l = h.before in
      let r = h.is_there in
      let d = inside_deeper t a b (omega (arith, l, r)) r (l, k) in
      let e = h.same in
      omega (arith, d, e))
]

-- rows below one parent are beside each other
pub shared_beside : (t : Tree) (u a b : ℕ) → a < b → b < count (nodes t) → IsInside (rows t) u a → IsInside (rows t) u b → level_of t a ≡ suc (level_of t u) → level_of t b ≡ level_of t a → AreBeside t a b
shared_beside t u a b l hb ia ib d e = record {
  before = l;
  is_there = hb;
  same = e;
  some = omega (arith, d);
  clear = λ q x y. (let w = ia.0 in let z = between_deeper t u b q hb ib (omega (arith, w, x)) (omega (arith, y)) in omega (arith, z, d));
}

-- no row is shallower between a row and its parent
pub parent_clear : (t : Tree) (u v : ℕ) → v < count (nodes t) → IsParent t u v → (q : ℕ) → u < q → q < v → level_of t v ≤ level_of t q
parent_clear t u v hv p q a b = let d = between_deeper t u v q hv p.inside a (omega (arith, b)) in let l = p.level in omega (arith, d, l)

-- the last row before v that is one level up is its parent
pub clear_parent : (t : Tree) (u v : ℕ) → v < count (nodes t) → u < v → level_of t v ≡ suc (level_of t u) → ((q : ℕ) → u < q → q < v → level_of t v ≤ level_of t q) → IsParent t u v
clear_parent t u v hv l e clear =
    let p = parent_of t v hv (omega (arith, e)) in
    let w = p.parent in
    let x = p.is.inside.0 in
    let d = p.is.level in
    elim (cases_order u w) [
      | inl same ↦ subst (λ n. IsParent t n v) (sym same) p.is
      | inr apart ↦ elim apart [
        | inl k ↦ absurd (let z = clear w k x in omega (arith, z, d))
        | inr k ↦ absurd (let z = between_deeper t w v u hv p.is.inside k (omega (arith, l)) in omega (arith, z, d, e))
      ]
    ]
