-- The twelve axes, as relations between the paths of two nodes of a tree: XPath 3.1, section
-- 3.3.2.1.
use Rattle.std.proofs.Common.{suc}
use Rattle.std.specs.Prelude.{ℕ, ◌≡◌, ◌≢◌, ◌⊎◌, List, length}
use Rattle.xq_trees.specs.Forest.{Forest}
use Rattle.xq_trees.specs.Tree.{Label}
use Rattle.xq_trees.specs.Node.{kind_at}
use Rattle.xq_trees.specs.Order.{IsAbove, IsLeftOf, IsBeside}
use Rattle.xq_trees.specs.declared.Kind.TheVariants.{Attribute}
use Rattle.xq_trees.specs.declared.Axis.{Axis}
use Rattle.xq_trees.specs.declared.Axis.TheVariants.{Child, Descendant, DescendantOrSelf, SelfNode, Attributes, Parent, Ancestor, AncestorOrSelf, Following, FollowingSibling, Preceding, PrecedingSibling}

-- the node at w is on the axis from the node at v
abbrev pub IsOnAxis : Axis → Forest Label → List ℕ → List ℕ → Type 0
IsOnAxis Child f v w = IsAbove v w × (length w ≡ suc (length v)) × (kind_at f w ≢ Attribute)
IsOnAxis Descendant f v w = IsAbove v w × (kind_at f w ≢ Attribute)
IsOnAxis DescendantOrSelf f v w = (v ≡ w) ⊎ (IsAbove v w × (kind_at f w ≢ Attribute))
IsOnAxis SelfNode f v w = v ≡ w
IsOnAxis Attributes f v w = IsAbove v w × (length w ≡ suc (length v)) × (kind_at f w ≡ Attribute)
IsOnAxis Parent f v w = IsAbove w v × (length v ≡ suc (length w))
IsOnAxis Ancestor f v w = IsAbove w v
IsOnAxis AncestorOrSelf f v w = (v ≡ w) ⊎ IsAbove w v
IsOnAxis Following f v w = IsLeftOf v w × (kind_at f w ≢ Attribute)
IsOnAxis FollowingSibling f v w = IsBeside v w × IsLeftOf v w × (kind_at f v ≢ Attribute)
    × (kind_at f w ≢ Attribute)
IsOnAxis Preceding f v w = IsLeftOf w v × (kind_at f w ≢ Attribute)
IsOnAxis PrecedingSibling f v w = IsBeside v w × IsLeftOf w v × (kind_at f v ≢ Attribute)
    × (kind_at f w ≢ Attribute)
