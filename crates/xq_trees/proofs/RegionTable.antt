-- The tests of regions are the regions, and so they are the axes.
use Rattle.std.proofs.Common.{◌≡◌, ◌≢◌, ◌↔◌, ℕ, zero, suc, ◌+◌, ◌<◌, List, inl, inr, Bool, true, false, not, refl, sym, ◌∙◌, ap, subst, arith, nat_eq, nat_lt}
use Rattle.std.proofs.lemmas.Bool.{leb-true, eqb-true, le-leb, eq-eqb, or_cases, cases_eq}
use Rattle.xq_trees.specs.Forest.{count}
use Rattle.xq_trees.specs.Tree.{Tree, nodes, is_attribute}
use Rattle.xq_trees.specs.Order.{path_at, place_of, IsBefore}
use Rattle.xq_trees.specs.Axis.{IsOnAxis}
use Rattle.xq_trees.specs.Rows.{Row, rows, row_at}
use Rattle.xq_trees.specs.Regions.{IsInside, ShareParent, kind_of_row, IsInRegion}
use Rattle.xq_trees.specs.RegionTests.{inside, plain_row, after, one_below, any_below, common_parent, shares_parent, sibling, in_region}
use Rattle.xq_trees.specs.declared.Axis.{Axis}
use Rattle.xq_trees.specs.declared.Axis.TheVariants.{Child, Descendant, DescendantOrSelf, SelfNode, Attributes, Parent, Ancestor, AncestorOrSelf, Following, FollowingSibling, Preceding, PrecedingSibling}
use Rattle.xq_trees.specs.declared.Kind.TheVariants.{Attribute}
use Rattle.xq_trees.proofs.Checking.{both, both_true}
use Rattle.xq_trees.proofs.Paths.{at_place}
use Rattle.xq_trees.proofs.Regions.{before_by_place}
use Rattle.xq_trees.proofs.AxisRegions.{axis_region}
use Rattle.xq_trees.proofs.AxisTable.{and_is, or_is, or_left, or_right, three, plain_kind_is, attribute_is}

pub any_below_true : (test : ℕ → Bool) (n k : ℕ) → k < n → test k ≡ true → any_below test n ≡ true
any_below_true test zero k l e = absurd (omega arith)
any_below_true test (suc n) k l e =
    elim (cases_eq k n) [
      | inl same ↦ or_left (test n) (any_below test n) (sym (ap test same) ∙ e)
      | inr apart ↦ or_right (test n) (any_below test n) (any_below_true test n k (let d : k ≡ n → ⊥ = apart in omega arith) e)
    ]

pub found_below : (test : ℕ → Bool) (n : ℕ) → any_below test n ≡ true → (k : ℕ) × (k < n) × (test k ≡ true)
found_below test zero e = absurd (cc)
found_below test (suc n) e =
    elim (or_cases (test n) (any_below test n) e) [
      | inl now ↦ (n, omega arith, now)
      | inr later ↦ (let w = found_below test n later in (w.0, omega (arith, w.1), w.2))
    ]

inside_is : (rs : List Row) (v p : ℕ) → inside rs v p ≡ true ↔ IsInside rs v p
inside_is rs v p = and_is _ _ (leb-true (suc v) p, le-leb (suc v) p) (leb-true p (v + (row_at rs v).size), le-leb p (v + (row_at rs v).size))

below_is : (rs : List Row) (v p : ℕ) → one_below rs v p ≡ true ↔ (row_at rs p).level ≡ suc (row_at rs v).level
below_is rs v p = (eqb-true _ _, eq-eqb _ _)

plain_is : (rs : List Row) (p : ℕ) → plain_row rs p ≡ true ↔ (kind_of_row rs p ≢ Attribute)
plain_is rs p = plain_kind_is (kind_of_row rs p)

not_not : (b : Bool) → not (not b) ≡ b
not_not true = refl
not_not false = refl

not_plain_is : (rs : List Row) (p : ℕ) → not (plain_row rs p) ≡ true ↔ (kind_of_row rs p ≡ Attribute)
not_plain_is rs p =
    let w = attribute_is (kind_of_row rs p) in
    let e = not_not (is_attribute (kind_of_row rs p)) in
    (λ h. w.0 (sym e ∙ h), λ h. e ∙ w.1 h)

same_is : (v p : ℕ) → nat_eq v p ≡ true ↔ (v ≡ p)
same_is v p = (eqb-true v p, eq-eqb v p)

after_is : (rs : List Row) (v p : ℕ) → after rs v p ≡ true ↔ (v + (row_at rs v).size < p)
after_is rs v p = (leb-true (suc (v + (row_at rs v).size)) p, le-leb (suc (v + (row_at rs v).size)) p)

common_is : (rs : List Row) (v p u : ℕ) → common_parent rs v p u ≡ true ↔ (IsInside rs u v × (IsInside rs u p × ((row_at rs v).level ≡ suc (row_at rs u).level)))
common_is rs v p u = and_is _ _ (inside_is rs u v) (and_is _ _ (inside_is rs u p) (below_is rs u v))

shares_is : (rs : List Row) (v p : ℕ) → shares_parent rs v p ≡ true ↔ ShareParent rs v p
shares_is rs v p = (
  λ e. (
      let w = both (nat_eq (row_at rs p).level (row_at rs v).level) (any_below (common_parent rs v p) v) e in
      let f = found_below (common_parent rs v p) v w.1 in
      let c = (common_is rs v p f.0).0 f.2 in
      (f.0, c.0, c.1.0, c.1.1, eqb-true _ _ w.0)),
  λ h. both_true _ _ (eq-eqb _ _ h.4) (any_below_true (common_parent rs v p) v h.0 h.1.0 ((common_is rs v p h.0).1 (h.1, (h.2, h.3)))),
)

sibling_is : (rs : List Row) (v p : ℕ) → sibling rs v p ≡ true ↔ (ShareParent rs v p × ((kind_of_row rs v ≢ Attribute) × (kind_of_row rs p ≢ Attribute)))
sibling_is rs v p = and_is _ _ (shares_is rs v p) (and_is _ _ (plain_is rs v) (plain_is rs p))

-- the order in which a region of siblings names its parts
in_turn : {P Q R S : Type 0} (b : Bool) → b ≡ true ↔ (P × (Q × (R × S))) → b ≡ true ↔ (Q × P × R × S)
in_turn b h = (λ e. (let w = h.0 e in (w.1.0, w.0, w.1.1.0, w.1.1.1)), λ w. h.1 (w.1, (w.0, (w.2, w.3))))

pub in_region_is : (axis : Axis) (rs : List Row) (v p : ℕ) → in_region axis rs v p ≡ true ↔ IsInRegion axis rs v p
in_region_is Child rs v p = three _ (and_is _ _ (inside_is rs v p) (and_is _ _ (below_is rs v p) (plain_is rs p)))
in_region_is Descendant rs v p = and_is _ _ (inside_is rs v p) (plain_is rs p)
in_region_is DescendantOrSelf rs v p = or_is _ _ (same_is v p) (and_is _ _ (inside_is rs v p) (plain_is rs p))
in_region_is SelfNode rs v p = same_is v p
in_region_is Attributes rs v p = three _ (and_is _ _ (inside_is rs v p) (and_is _ _ (below_is rs v p) (not_plain_is rs p)))
in_region_is Parent rs v p = and_is _ _ (inside_is rs p v) (below_is rs p v)
in_region_is Ancestor rs v p = inside_is rs p v
in_region_is AncestorOrSelf rs v p = or_is _ _ (same_is v p) (inside_is rs p v)
in_region_is Following rs v p = and_is _ _ (after_is rs v p) (plain_is rs p)
in_region_is FollowingSibling rs v p = in_turn _ (and_is _ _ (after_is rs v p) (sibling_is rs v p))
in_region_is Preceding rs v p = and_is _ _ (after_is rs p v) (plain_is rs p)
in_region_is PrecedingSibling rs v p = in_turn _ (and_is _ _ (after_is rs p v) (sibling_is rs v p))

-- two rows are in a region where the nodes at their places are on the axis
pub region_is_axis : (axis : Axis) (t : Tree) (rs : List Row) (v p : ℕ) (b : Bool) → rs ≡ rows t → v < count (nodes t) → p < count (nodes t) → b ≡ in_region axis rs v p
    → b ≡ true ↔ IsOnAxis axis (nodes t) (path_at (nodes t) v) (path_at (nodes t) p)
region_is_axis axis t rs v p b r hv hp e =
    let f = nodes t in
    let at_v = at_place f v hv in
    let at_p = at_place f p hp in
    let a = axis_region axis t (path_at f v) (path_at f p) at_v.exists at_p.exists in
    let w = in_region_is axis (rows t) v p in
    let test : b ≡ in_region axis (rows t) v p = e ∙ ap (λ xs. in_region axis xs v p) r in
    let back : IsInRegion axis (rows t) v p → IsInRegion axis (rows t) (place_of f (path_at f v)) (place_of f (path_at f p)) =
    λ h. subst (λ n. IsInRegion axis (rows t) n (place_of f (path_at f p))) (sym at_v.place) (subst (λ n. IsInRegion axis (rows t) v n) (sym at_p.place) h) in
    let forth : IsInRegion axis (rows t) (place_of f (path_at f v)) (place_of f (path_at f p)) → IsInRegion axis (rows t) v p =
    λ h. subst (λ n. IsInRegion axis (rows t) v n) at_p.place (subst (λ n. IsInRegion axis (rows t) n (place_of f (path_at f p))) at_v.place h) in
    (λ h. a.1 (back (w.0 (sym test ∙ h))), λ h. test ∙ w.1 (forth (a.0 h)))

-- the order of places is document order
pub order_is_places : (t : Tree) (v p : ℕ) (b : Bool) → v < count (nodes t) → p < count (nodes t) → b ≡ nat_lt v p → b ≡ true ↔ IsBefore (path_at (nodes t) v) (path_at (nodes t) p)
order_is_places t v p b hv hp e =
    let f = nodes t in
    let at_v = at_place f v hv in
    let at_p = at_place f p hp in
    let w = before_by_place f (path_at f v) (path_at f p) at_v.exists at_p.exists in
    (λ h. w.1 (let l = leb-true (suc v) p (sym e ∙ h) in omega (arith, at_v.place, at_p.place, l)), λ h. e ∙ le-leb (suc v) p (let l = w.0 h in omega (arith, at_v.place, at_p.place, l)))
