-- The axes, as regions of the rows of a tree: each by `pre`, `size`, `level` and kind alone.
use Rattle.std.proofs.Common.{suc}
use Rattle.std.specs.Prelude.{ℕ, ◌+◌, ◌<◌, ◌≤◌, ◌≡◌, ◌≢◌, ◌⊎◌, List}
use Rattle.xq_trees.specs.Rows.{Row, row_at}
use Rattle.xq_trees.specs.declared.Kind.{Kind}
use Rattle.xq_trees.specs.declared.Kind.TheVariants.{Attribute}
use Rattle.xq_trees.specs.declared.Axis.{Axis}
use Rattle.xq_trees.specs.declared.Axis.TheVariants.{Child, Descendant, DescendantOrSelf, SelfNode, Attributes, Parent, Ancestor, AncestorOrSelf, Following, FollowingSibling, Preceding, PrecedingSibling}

-- p is in the rows below v
abbrev pub IsInside : List Row → ℕ → ℕ → Type 0
IsInside rs v p = (v < p) × (p ≤ v + (row_at rs v).size)

-- v and p have one parent
abbrev pub ShareParent : List Row → ℕ → ℕ → Type 0
ShareParent rs v p =
    (u : ℕ) × IsInside rs u v × IsInside rs u p
    × ((row_at rs v).level ≡ suc (row_at rs u).level) × ((row_at rs p).level ≡ (row_at rs v).level)

-- the kind of the row at a place, or a document's where there is none
abbrev pub kind_of_row : List Row → ℕ → Kind
kind_of_row rs p = (row_at rs p).label.kind

-- the row p is in the axis's region of the row v
abbrev pub IsInRegion : Axis → List Row → ℕ → ℕ → Type 0
IsInRegion Child rs v p = IsInside rs v p × ((row_at rs p).level ≡ suc (row_at rs v).level)
    × (kind_of_row rs p ≢ Attribute)
IsInRegion Descendant rs v p = IsInside rs v p × (kind_of_row rs p ≢ Attribute)
IsInRegion DescendantOrSelf rs v p = (v ≡ p) ⊎ (IsInside rs v p × (kind_of_row rs p ≢ Attribute))
IsInRegion SelfNode rs v p = v ≡ p
IsInRegion Attributes rs v p = IsInside rs v p × ((row_at rs p).level ≡ suc (row_at rs v).level)
    × (kind_of_row rs p ≡ Attribute)
IsInRegion Parent rs v p = IsInside rs p v × ((row_at rs v).level ≡ suc (row_at rs p).level)
IsInRegion Ancestor rs v p = IsInside rs p v
IsInRegion AncestorOrSelf rs v p = (v ≡ p) ⊎ IsInside rs p v
IsInRegion Following rs v p = (v + (row_at rs v).size < p) × (kind_of_row rs p ≢ Attribute)
IsInRegion FollowingSibling rs v p = ShareParent rs v p × (v + (row_at rs v).size < p)
    × (kind_of_row rs v ≢ Attribute) × (kind_of_row rs p ≢ Attribute)
IsInRegion Preceding rs v p = (p + (row_at rs p).size < v) × (kind_of_row rs p ≢ Attribute)
IsInRegion PrecedingSibling rs v p = ShareParent rs v p × (p + (row_at rs p).size < v)
    × (kind_of_row rs v ≢ Attribute) × (kind_of_row rs p ≢ Attribute)
