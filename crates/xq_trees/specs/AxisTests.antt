-- The axes as tests that compute; each is true exactly where the relation of Axis holds.
use Rattle.std.proofs.Common.{suc}
use Rattle.std.specs.Prelude.{ℕ, List, [], ◌∷◌, length, Bool, true, false, not, ◌&&◌, ◌||◌, nat_eq, nat_lt}
use Rattle.xq_trees.specs.Forest.{Forest}
use Rattle.xq_trees.specs.Tree.{Label, is_attribute}
use Rattle.xq_trees.specs.Node.{kind_at}
use Rattle.xq_trees.specs.declared.Axis.{Axis}
use Rattle.xq_trees.specs.declared.Axis.TheVariants.{Child, Descendant, DescendantOrSelf, SelfNode, Attributes, Parent, Ancestor, AncestorOrSelf, Following, FollowingSibling, Preceding, PrecedingSibling}

-- the first path is a proper prefix of the second
abbrev pub is_above : List ℕ → List ℕ → Bool
is_above p [] = false
is_above [] (j ∷ q) = true
is_above (i ∷ p) (j ∷ q) = nat_eq i j && is_above p q

-- the paths part, and the first goes to the left of the second
abbrev pub is_left_of : List ℕ → List ℕ → Bool
is_left_of [] q = false
is_left_of (i ∷ p) [] = false
is_left_of (i ∷ p) (j ∷ q) = nat_lt i j || (nat_eq i j && is_left_of p q)

-- the paths are equal
abbrev pub is_same : List ℕ → List ℕ → Bool
is_same [] [] = true
is_same [] (j ∷ q) = false
is_same (i ∷ p) [] = false
is_same (i ∷ p) (j ∷ q) = nat_eq i j && is_same p q

-- neither path is empty, and they differ at most in their last step
abbrev pub is_beside : List ℕ → List ℕ → Bool
is_beside [] q = false
is_beside (i ∷ p) [] = false
is_beside (i ∷ []) (j ∷ []) = true
is_beside (i ∷ []) (j ∷ k ∷ q) = false
is_beside (i ∷ k ∷ p) (j ∷ []) = false
is_beside (i ∷ k ∷ p) (j ∷ l ∷ q) = nat_eq i j && is_beside (k ∷ p) (l ∷ q)

-- no attribute is at the end of the path
abbrev pub plain : Forest Label → List ℕ → Bool
plain f w = not (is_attribute (kind_at f w))

-- XQuery 3.1, 3.3.2.1: the node at w is on the axis from the node at v
abbrev pub on_axis : Axis → Forest Label → List ℕ → List ℕ → Bool
on_axis Child f v w = is_above v w && (nat_eq (length w) (suc (length v)) && plain f w)
on_axis Descendant f v w = is_above v w && plain f w
on_axis DescendantOrSelf f v w = is_same v w || (is_above v w && plain f w)
on_axis SelfNode f v w = is_same v w
on_axis Attributes f v w = is_above v w
    && (nat_eq (length w) (suc (length v)) && is_attribute (kind_at f w))
on_axis Parent f v w = is_above w v && nat_eq (length v) (suc (length w))
on_axis Ancestor f v w = is_above w v
on_axis AncestorOrSelf f v w = is_same v w || is_above w v
on_axis Following f v w = is_left_of v w && plain f w
on_axis FollowingSibling f v w = is_beside v w && (is_left_of v w && (plain f v && plain f w))
on_axis Preceding f v w = is_left_of w v && plain f w
on_axis PrecedingSibling f v w = is_beside v w && (is_left_of w v && (plain f v && plain f w))
