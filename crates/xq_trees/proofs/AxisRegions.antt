-- Each axis is a region of the rows.
use Rattle.std.proofs.Common.{◌≡◌, ◌≢◌, ◌↔◌, ℕ, zero, suc, ◌+◌, ◌<◌, List, [], ◌∷◌, length, inl, inr, refl, sym, ◌∙◌, ap, subst, arith}
use Rattle.xq_trees.specs.Forest.{Forest, end, node}
use Rattle.xq_trees.specs.Tree.{Label, Tree, nodes}
use Rattle.xq_trees.specs.Node.{HasPath, kind_at}
use Rattle.xq_trees.specs.Order.{place_of, path_at, IsAbove, IsLeftOf, IsBeside}
use Rattle.xq_trees.specs.Axis.{IsOnAxis}
use Rattle.xq_trees.specs.Rows.{rows, row_at}
use Rattle.xq_trees.specs.Regions.{kind_of_row, IsInside, ShareParent, IsInRegion}
use Rattle.xq_trees.specs.declared.Axis.{Axis}
use Rattle.xq_trees.specs.declared.Axis.TheVariants.{Child, Descendant, DescendantOrSelf, SelfNode, Attributes, Parent, Ancestor, AncestorOrSelf, Following, FollowingSibling, Preceding, PrecedingSibling}
use Rattle.xq_trees.proofs.Paths.{place_lt, at_place}
use Rattle.xq_trees.proofs.Regions.{row_at-place_of, places}

-- # Two nodes by their rows

pub record Located (t : Tree) (v w : List ℕ) : Type 0 where
  pub same : v ≡ w ↔ place_of (nodes t) v ≡ place_of (nodes t) w
  pub inside : IsAbove v w ↔ IsInside (rows t) (place_of (nodes t) v) (place_of (nodes t) w)
  pub left : IsLeftOf v w ↔ place_of (nodes t) v + (row_at (rows t) (place_of (nodes t) v)).size < place_of (nodes t) w
  pub below_one : length w ≡ suc (length v) ↔ (row_at (rows t) (place_of (nodes t) w)).level ≡ suc (row_at (rows t) (place_of (nodes t) v)).level
  pub kind : kind_at (nodes t) w ≡ kind_of_row (rows t) (place_of (nodes t) w)

pub located : (t : Tree) (v w : List ℕ) → HasPath (nodes t) v → HasPath (nodes t) w → Located t v w
located t v w hv hw =
    let p = places (nodes t) v w hv hw in
    let dv = row_at-place_of 0 (nodes t) v hv in
    let dw = row_at-place_of 0 (nodes t) w hw in
    let s = dv.size in
    let lv = dv.level in
    let lw = dw.level in
    record {
      same = p.same;
      inside = (λ h. (let g = p.above.0 h in (g.0, omega (arith, g.1))), λ h. p.above.1 (h.0, omega (arith, h.1)));
      left = (λ h. (let g = p.left.0 h in omega arith), λ h. p.left.1 (omega arith));
      below_one = (λ h. omega arith, λ h. omega arith);
      kind = ap (λ (l : Label). l.kind) (sym dw.label);
    }

-- # The parent of two siblings

pub init : List ℕ → List ℕ
init [] = []
init (i ∷ []) = []
init (i ∷ j ∷ p) = i ∷ init (j ∷ p)

init_above : (i : ℕ) (p : List ℕ) → IsAbove (init (i ∷ p)) (i ∷ p)
unfolding init
init_above i [] = tt
init_above i (j ∷ p) = (refl, init_above j p)

length-init : (i : ℕ) (p : List ℕ) → suc (length (init (i ∷ p))) ≡ length (i ∷ p)
unfolding init
length-init i [] = refl
length-init i (j ∷ p) = ap suc (length-init j p)

init_exists : {A : Type 0} (f : Forest A) (i j : ℕ) (p : List ℕ) → HasPath f (i ∷ j ∷ p) → HasPath f (i ∷ init (j ∷ p))
unfolding init
init_exists end i j p h = h
init_exists (node a k r) zero j [] h = tt
init_exists (node a k r) zero j (l ∷ p) h = init_exists k j l p h
init_exists (node a k r) (suc i) j p h = init_exists r i j p h

beside_above : (i j : ℕ) (p q : List ℕ) → IsBeside (i ∷ p) (j ∷ q) → IsAbove (init (i ∷ p)) (j ∷ q) × (length (j ∷ q) ≡ length (i ∷ p))
unfolding init
beside_above i j [] [] h = (tt, refl)
beside_above i j [] (l ∷ q) h = absurd h
beside_above i j (k ∷ p) [] h = absurd h
beside_above i j (k ∷ p) (l ∷ q) h = let w = beside_above k l p q h.1 in ((h.0, w.0), ap suc w.1)

above_beside : (u v w : List ℕ) → IsAbove u v → IsAbove u w → length v ≡ suc (length u) → length w ≡ suc (length u) → IsBeside v w
above_beside u [] w h g a b = absurd h
above_beside u (i ∷ v) [] h g a b = absurd g
above_beside [] (i ∷ []) (j ∷ []) h g a b = tt
above_beside [] (i ∷ []) (j ∷ l ∷ w) h g a b = absurd (omega (arith, b))
above_beside [] (i ∷ k ∷ v) (j ∷ w) h g a b = absurd (omega (arith, a))
above_beside (x ∷ u) (i ∷ []) (j ∷ w) h g a b = absurd h.1
above_beside (x ∷ u) (i ∷ k ∷ v) (j ∷ []) h g a b = absurd g.1
above_beside (x ∷ u) (i ∷ k ∷ v) (j ∷ l ∷ w) h g a b = (sym h.0 ∙ g.0, above_beside u (k ∷ v) (l ∷ w) h.1 g.1 (omega (arith, a)) (omega (arith, b)))

-- only the root stands at the top
one_root : (t : Tree) (i : ℕ) (p : List ℕ) → HasPath (nodes t) (i ∷ p) → i ≡ 0
one_root t zero p h = refl
one_root t (suc i) p h = absurd h

pub siblings : (t : Tree) (v w : List ℕ) → HasPath (nodes t) v → HasPath (nodes t) w → v ≢ w → IsBeside v w ↔ ShareParent (rows t) (place_of (nodes t) v) (place_of (nodes t) w)
siblings t v w hv hw ne = (to v w hv hw ne, from)
  where
    to : (v w : List ℕ) → HasPath (nodes t) v → HasPath (nodes t) w → v ≢ w → IsBeside v w → ShareParent (rows t) (place_of (nodes t) v) (place_of (nodes t) w)
    to [] w hv hw ne h = absurd h
    to (i ∷ p) [] hv hw ne h = absurd h
    to (i ∷ []) (j ∷ []) hv hw ne h = absurd (ne (ap (λ n. n ∷ []) (one_root t i [] hv ∙ sym (one_root t j [] hw))))
    to (i ∷ []) (j ∷ l ∷ q) hv hw ne h = absurd h
    to (i ∷ k ∷ p) (j ∷ q) hv hw ne h =
        let u = i ∷ init (k ∷ p) in
        let hu : HasPath (nodes t) u = init_exists (nodes t) i k p hv in
        let b = beside_above i j (k ∷ p) q h in
        let uv = located t u (i ∷ k ∷ p) hu hv in
        let uw = located t u (j ∷ q) hu hw in
        let up : init (i ∷ k ∷ p) ≡ u = unfold init in refl in
        let n : length (i ∷ k ∷ p) ≡ suc (length u) = sym (ap suc (ap length (sym up)) ∙ length-init i (k ∷ p)) in
        let lv = uv.below_one.0 n in
        let lw = uw.below_one.0 (b.1 ∙ n) in
        (place_of (nodes t) u, uv.inside.0 (subst (λ x. IsAbove x (i ∷ k ∷ p)) up (init_above i (k ∷ p))), uw.inside.0 (subst (λ x. IsAbove x (j ∷ q)) up b.0), lv, lw ∙ sym lv)

    from : ShareParent (rows t) (place_of (nodes t) v) (place_of (nodes t) w) → IsBeside v w
    from h =
        let n = h.0 in
        let a = at_place (nodes t) n (let l = place_lt (nodes t) v hv in let g = h.1.0 in omega arith) in
        let u = path_at (nodes t) n in
        let uv = located t u v a.exists hv in
        let uw = located t u w a.exists hw in
        let e : n ≡ place_of (nodes t) u = sym a.place in
        let iv = subst (λ m. IsInside (rows t) m (place_of (nodes t) v)) e h.1 in
        let iw = subst (λ m. IsInside (rows t) m (place_of (nodes t) w)) e h.2 in
        let lv : (row_at (rows t) (place_of (nodes t) v)).level ≡ suc (row_at (rows t) (place_of (nodes t) u)).level = subst (λ m. (row_at (rows t) (place_of (nodes t) v)).level ≡ suc (row_at (rows t) m).level) e h.3 in
        above_beside u v w (uv.inside.1 iv) (uw.inside.1 iw) (uv.below_one.1 lv) (uw.below_one.1 (h.4 ∙ lv))

-- # The twelve axes

left_apart : (v w : List ℕ) → IsLeftOf v w → v ≢ w
left_apart [] w h e = absurd h
left_apart (i ∷ v) [] h e = absurd h
left_apart (i ∷ v) (j ∷ w) h e =
    let first : i ≡ j = cc in
    let rest : v ≡ w = cc in
    elim h [ inl l ↦ omega (arith, l, first) | inr g ↦ left_apart v w g.1 rest ]

-- w is on the axis from v where its row is in the axis's region of v's row
pub axis_region : (axis : Axis) (t : Tree) (v w : List ℕ) → HasPath (nodes t) v → HasPath (nodes t) w → IsOnAxis axis (nodes t) v w ↔ IsInRegion axis (rows t) (place_of (nodes t) v) (place_of (nodes t) w)
axis_region Child t v w hv hw =
    let l = located t v w hv hw in
    (λ h. (l.inside.0 h.0, l.below_one.0 h.1, λ e. h.2 (l.kind ∙ e)), λ h. (l.inside.1 h.0, l.below_one.1 h.1, λ e. h.2 (sym l.kind ∙ e)))
axis_region Descendant t v w hv hw =
    let l = located t v w hv hw in
    (λ h. (l.inside.0 h.0, λ e. h.1 (l.kind ∙ e)), λ h. (l.inside.1 h.0, λ e. h.1 (sym l.kind ∙ e)))
axis_region DescendantOrSelf t v w hv hw =
    let l = located t v w hv hw in (
      λ h. elim h [ inl e ↦ inl (l.same.0 e) | inr g ↦ inr (l.inside.0 g.0, λ e. g.1 (l.kind ∙ e)) ],
      λ h. elim h [ inl e ↦ inl (l.same.1 e) | inr g ↦ inr (l.inside.1 g.0, λ e. g.1 (sym l.kind ∙ e)) ],
    )
axis_region SelfNode t v w hv hw = (located t v w hv hw).same
axis_region Attributes t v w hv hw =
    let l = located t v w hv hw in
    (λ h. (l.inside.0 h.0, l.below_one.0 h.1, sym l.kind ∙ h.2), λ h. (l.inside.1 h.0, l.below_one.1 h.1, l.kind ∙ h.2))
axis_region Parent t v w hv hw =
    let l = located t w v hw hv in
    (λ h. (l.inside.0 h.0, l.below_one.0 h.1), λ h. (l.inside.1 h.0, l.below_one.1 h.1))
axis_region Ancestor t v w hv hw = (located t w v hw hv).inside
axis_region AncestorOrSelf t v w hv hw =
    let l = located t v w hv hw in
    let m = located t w v hw hv in (
      λ h. elim h [ inl e ↦ inl (l.same.0 e) | inr g ↦ inr (m.inside.0 g) ],
      λ h. elim h [ inl e ↦ inl (l.same.1 e) | inr g ↦ inr (m.inside.1 g) ],
    )
axis_region Following t v w hv hw =
    let l = located t v w hv hw in
    (λ h. (l.left.0 h.0, λ e. h.1 (l.kind ∙ e)), λ h. (l.left.1 h.0, λ e. h.1 (sym l.kind ∙ e)))
axis_region FollowingSibling t v w hv hw =
    let l = located t v w hv hw in
    let m = located t w v hw hv in (
      λ h. ((siblings t v w hv hw (left_apart v w h.1)).0 h.0, l.left.0 h.1, λ e. h.2 (m.kind ∙ e), λ e. h.3 (l.kind ∙ e)),
      λ h. (let g = l.left.1 h.1 in ((siblings t v w hv hw (left_apart v w g)).1 h.0, g, λ e. h.2 (sym m.kind ∙ e), λ e. h.3 (sym l.kind ∙ e))),
    )
axis_region Preceding t v w hv hw =
    let l = located t v w hv hw in
    let m = located t w v hw hv in
    (λ h. (m.left.0 h.0, λ e. h.1 (l.kind ∙ e)), λ h. (m.left.1 h.0, λ e. h.1 (sym l.kind ∙ e)))
axis_region PrecedingSibling t v w hv hw =
    let l = located t v w hv hw in
    let m = located t w v hw hv in (
      λ h. ((siblings t v w hv hw (λ e. left_apart w v h.1 (sym e))).0 h.0, m.left.0 h.1, λ e. h.2 (m.kind ∙ e), λ e. h.3 (l.kind ∙ e)),
      λ h. (let g = m.left.1 h.1 in ((siblings t v w hv hw (λ e. left_apart w v g (sym e))).1 h.0, g, λ e. h.2 (sym m.kind ∙ e), λ e. h.3 (sym l.kind ∙ e))),
    )
