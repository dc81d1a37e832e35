-- The axes of the worked document, and that the tests of axes are their definitions.
use Rattle.std.proofs.Common.{◌≡◌, ◌≢◌, ◌↔◌, ℕ, suc, List, [], ◌∷◌, length, ◌⊎◌, inl, inr, Bool, true, false, not, ◌&&◌, ◌||◌, refl}
use Rattle.std.specs.Prelude.{nat_eq, nat_lt, filter}
use Rattle.std.specs.List.{range_with_len}
use Rattle.std.proofs.lemmas.Bool.{leb-true, eqb-true, le-leb, eq-eqb}
use Rattle.xq_trees.specs.Forest.{Forest, count}
use Rattle.xq_trees.specs.Tree.{Label, Tree, nodes, is_attribute}
use Rattle.xq_trees.specs.Node.{kind_at}
use Rattle.xq_trees.specs.Order.{IsAbove, IsLeftOf, IsBeside, path_at}
use Rattle.xq_trees.specs.Axis.{IsOnAxis}
use Rattle.xq_trees.specs.AxisTests.{is_above, is_left_of, is_same, is_beside, plain, on_axis}
use Rattle.xq_trees.proofs.Checking.{both, both_true}
use Rattle.xq_trees.specs.declared.Kind.{Kind}
use Rattle.xq_trees.specs.declared.Kind.TheVariants.{Document, Element, Attribute, Text, Comment, ProcessingInstruction}
use Rattle.xq_trees.specs.declared.Axis.{Axis}
use Rattle.xq_trees.specs.declared.Axis.TheVariants.{Child, Descendant, DescendantOrSelf, SelfNode, Attributes, Parent, Ancestor, AncestorOrSelf, Following, FollowingSibling, Preceding, PrecedingSibling}
use Rattle.xq_trees.proofs.Worked.{library}

-- the places of the nodes that are on the axis from the node at the place v, in document order
abbrev axis_places : Axis → Tree → ℕ → List ℕ
axis_places axis t v = filter
    (λ p. on_axis axis (nodes t) (path_at (nodes t) v) (path_at (nodes t) p))
    (range_with_len 0 (count (nodes t)))

abbrev Row_of_table : Axis → List ℕ → List ℕ → Type 0
Row_of_table axis five three = (axis_places axis library 5 ≡ five) × (axis_places axis library 3 ≡ three)

child : Row_of_table Child (7 ∷ []) []
child = (refl, refl)

descendant : Row_of_table Descendant (7 ∷ []) []
descendant = (refl, refl)

descendant_or_self : Row_of_table DescendantOrSelf (5 ∷ 7 ∷ []) (3 ∷ [])
descendant_or_self = (refl, refl)

self_node : Row_of_table SelfNode (5 ∷ []) (3 ∷ [])
self_node = (refl, refl)

attribute : Row_of_table Attributes (6 ∷ []) []
attribute = (refl, refl)

parent : Row_of_table Parent (1 ∷ []) (2 ∷ [])
parent = (refl, refl)

ancestor : Row_of_table Ancestor (0 ∷ 1 ∷ []) (0 ∷ 1 ∷ 2 ∷ [])
ancestor = (refl, refl)

ancestor_or_self : Row_of_table AncestorOrSelf (0 ∷ 1 ∷ 5 ∷ []) (0 ∷ 1 ∷ 2 ∷ 3 ∷ [])
ancestor_or_self = (refl, refl)

following : Row_of_table Following [] (4 ∷ 5 ∷ 7 ∷ [])
following = (refl, refl)

following_sibling : Row_of_table FollowingSibling [] []
following_sibling = (refl, refl)

preceding : Row_of_table Preceding (2 ∷ 4 ∷ []) []
preceding = (refl, refl)

preceding_sibling : Row_of_table PrecedingSibling (2 ∷ []) []
preceding_sibling = (refl, refl)

-- # The tests are the definitions

above_is : (p q : List ℕ) → is_above p q ≡ true ↔ IsAbove p q
above_is p [] = (λ e. absurd (cc), λ h. absurd h)
above_is [] (j ∷ q) = (λ e. tt, λ h. refl)
above_is (i ∷ p) (j ∷ q) =
    let ih = above_is p q in
    (λ e. (let w = both (nat_eq i j) (is_above p q) e in (eqb-true i j w.0, ih.0 w.1)), λ h. both_true (nat_eq i j) (is_above p q) (eq-eqb i j h.0) (ih.1 h.1))

either : (a b : Bool) → (a || b) ≡ true → (a ≡ true) ⊎ (b ≡ true)
either true b e = inl refl
either false b e = inr e

pub or_left : (a b : Bool) → a ≡ true → (a || b) ≡ true
or_left true b e = refl
or_left false b e = absurd (cc)

pub or_right : (a b : Bool) → b ≡ true → (a || b) ≡ true
or_right true b e = refl
or_right false b e = e

left_is : (p q : List ℕ) → is_left_of p q ≡ true ↔ IsLeftOf p q
left_is [] q = (λ e. absurd (cc), λ h. absurd h)
left_is (i ∷ p) [] = (λ e. absurd (cc), λ h. absurd h)
left_is (i ∷ p) (j ∷ q) =
    let ih = left_is p q in (
      λ e. elim (either (nat_lt i j) (nat_eq i j && is_left_of p q) e) [
        | inl l ↦ inl (leb-true (suc i) j l)
        | inr g ↦ (let w = both (nat_eq i j) (is_left_of p q) g in inr (eqb-true i j w.0, ih.0 w.1))
      ],
      λ h. elim h [
        | inl l ↦ or_left (nat_lt i j) (nat_eq i j && is_left_of p q) (le-leb (suc i) j l)
        | inr g ↦ or_right (nat_lt i j) (nat_eq i j && is_left_of p q) (both_true (nat_eq i j) (is_left_of p q) (eq-eqb i j g.0) (ih.1 g.1))
      ],
    )

same_is : (p q : List ℕ) → is_same p q ≡ true ↔ (p ≡ q)
same_is [] [] = (λ e. refl, λ h. refl)
same_is [] (j ∷ q) = (λ e. absurd (cc), λ h. absurd (cc))
same_is (i ∷ p) [] = (λ e. absurd (cc), λ h. absurd (cc))
same_is (i ∷ p) (j ∷ q) =
    let ih = same_is p q in (
      λ e. (let w = both (nat_eq i j) (is_same p q) e in let a = eqb-true i j w.0 in let b = ih.0 w.1 in rw (a, b)),
      λ h. (let a : i ≡ j = cc in let b : p ≡ q = cc in both_true (nat_eq i j) (is_same p q) (eq-eqb i j a) (ih.1 b)),
    )

beside_is : (p q : List ℕ) → is_beside p q ≡ true ↔ IsBeside p q
beside_is [] q = (λ e. absurd (cc), λ h. absurd h)
beside_is (i ∷ p) [] = (λ e. absurd (cc), λ h. absurd h)
beside_is (i ∷ []) (j ∷ []) = (λ e. tt, λ h. refl)
beside_is (i ∷ []) (j ∷ k ∷ q) = (λ e. absurd (cc), λ h. absurd h)
beside_is (i ∷ k ∷ p) (j ∷ []) = (λ e. absurd (cc), λ h. absurd h)
beside_is (i ∷ k ∷ p) (j ∷ l ∷ q) =
    let ih = beside_is (k ∷ p) (l ∷ q) in
    (λ e. (let w = both (nat_eq i j) (is_beside (k ∷ p) (l ∷ q)) e in (eqb-true i j w.0, ih.0 w.1)), λ h. both_true (nat_eq i j) (is_beside (k ∷ p) (l ∷ q)) (eq-eqb i j h.0) (ih.1 h.1))

pub attribute_is : (k : Kind) → is_attribute k ≡ true ↔ (k ≡ Attribute)
attribute_is Document = (λ e. absurd (cc), λ h. absurd (cc))
attribute_is Element = (λ e. absurd (cc), λ h. absurd (cc))
attribute_is Attribute = (λ e. refl, λ h. refl)
attribute_is Text = (λ e. absurd (cc), λ h. absurd (cc))
attribute_is Comment = (λ e. absurd (cc), λ h. absurd (cc))
attribute_is ProcessingInstruction = (λ e. absurd (cc), λ h. absurd (cc))

pub plain_kind_is : (k : Kind) → not (is_attribute k) ≡ true ↔ (k ≢ Attribute)
plain_kind_is Document = (λ e h. cc, λ h. refl)
plain_kind_is Element = (λ e h. cc, λ h. refl)
plain_kind_is Attribute = (λ e h. cc, λ h. absurd (h refl))
plain_kind_is Text = (λ e h. cc, λ h. refl)
plain_kind_is Comment = (λ e h. cc, λ h. refl)
plain_kind_is ProcessingInstruction = (λ e h. cc, λ h. refl)

plain_is : (f : Forest Label) (w : List ℕ) → plain f w ≡ true ↔ (kind_at f w ≢ Attribute)
plain_is f w = plain_kind_is (kind_at f w)

one_more_is : (v w : List ℕ) → nat_eq (length w) (suc (length v)) ≡ true ↔ (length w ≡ suc (length v))
one_more_is v w = (eqb-true (length w) (suc (length v)), eq-eqb (length w) (suc (length v)))

pub and_is : {P Q : Type 0} (a b : Bool) → (a ≡ true ↔ P) → (b ≡ true ↔ Q) → (a && b) ≡ true ↔ (P × Q)
and_is a b p q = (λ e. (let w = both a b e in (p.0 w.0, q.0 w.1)), λ h. both_true a b (p.1 h.0) (q.1 h.1))

pub or_is : {P Q : Type 0} (a b : Bool) → (a ≡ true ↔ P) → (b ≡ true ↔ Q) → (a || b) ≡ true ↔ (P ⊎ Q)
or_is a b p q = (
  λ e. elim (either a b e) [ inl g ↦ inl (p.0 g) | inr g ↦ inr (q.0 g) ],
  λ h. elim h [ inl g ↦ or_left a b (p.1 g) | inr g ↦ or_right a b (q.1 g) ],
)

pub three : {P Q R : Type 0} (a : Bool) → (a ≡ true ↔ (P × (Q × R))) → a ≡ true ↔ (P × Q × R)
three a h = (λ e. (let w = h.0 e in (w.0, w.1.0, w.1.1)), λ w. h.1 (w.0, (w.1, w.2)))

four : {P Q R S : Type 0} (a : Bool) → (a ≡ true ↔ (P × (Q × (R × S)))) → a ≡ true ↔ (P × Q × R × S)
four a h = (λ e. (let w = h.0 e in (w.0, w.1.0, w.1.1.0, w.1.1.1)), λ w. h.1 (w.0, (w.1, (w.2, w.3))))

pub on_axis_is : (axis : Axis) (f : Forest Label) (v w : List ℕ) → on_axis axis f v w ≡ true ↔ IsOnAxis axis f v w
on_axis_is Child f v w = three _ (and_is _ _ (above_is v w) (and_is _ _ (one_more_is v w) (plain_is f w)))
on_axis_is Descendant f v w = and_is _ _ (above_is v w) (plain_is f w)
on_axis_is DescendantOrSelf f v w = or_is _ _ (same_is v w) (and_is _ _ (above_is v w) (plain_is f w))
on_axis_is SelfNode f v w = same_is v w
on_axis_is Attributes f v w = three _ (and_is _ _ (above_is v w) (and_is _ _ (one_more_is v w) (attribute_is (kind_at f w))))
on_axis_is Parent f v w = and_is _ _ (above_is w v) (one_more_is w v)
on_axis_is Ancestor f v w = above_is w v
on_axis_is AncestorOrSelf f v w = or_is _ _ (same_is v w) (above_is w v)
on_axis_is Following f v w = and_is _ _ (left_is v w) (plain_is f w)
on_axis_is FollowingSibling f v w = four _ (and_is _ _ (beside_is v w) (and_is _ _ (left_is v w) (and_is _ _ (plain_is f v) (plain_is f w))))
on_axis_is Preceding f v w = and_is _ _ (left_is w v) (plain_is f w)
on_axis_is PrecedingSibling f v w = four _ (and_is _ _ (beside_is v w) (and_is _ _ (left_is w v) (and_is _ _ (plain_is f v) (plain_is f w))))
