-- Where a row stands to another one, and the regions of axes, as tests that compute.
use Rattle.std.proofs.Common.{zero, suc}
use Rattle.std.specs.Prelude.{ℕ, ◌+◌, List, Bool, false, not, ◌&&◌, ◌||◌, nat_eq, nat_lt, nat_le}
use Rattle.xq_trees.specs.Tree.{is_attribute}
use Rattle.xq_trees.specs.Rows.{Row, row_at}
use Rattle.xq_trees.specs.declared.Axis.{Axis}
use Rattle.xq_trees.specs.declared.Axis.TheVariants.{Child, Descendant, DescendantOrSelf, SelfNode, Attributes, Parent, Ancestor, AncestorOrSelf, Following, FollowingSibling, Preceding, PrecedingSibling}

-- p is below v
abbrev pub inside : List Row → ℕ → ℕ → Bool
inside rs v p = nat_lt v p && nat_le p (v + (row_at rs v).size)

-- p comes after the rows of v
abbrev pub after : List Row → ℕ → ℕ → Bool
after rs v p = nat_lt (v + (row_at rs v).size) p

-- p is no attribute
abbrev pub plain_row : List Row → ℕ → Bool
plain_row rs p = not (is_attribute (row_at rs p).label.kind)

-- # Regions

-- the level of p is one more than that of v
abbrev pub one_below : List Row → ℕ → ℕ → Bool
one_below rs v p = nat_eq (row_at rs p).level (suc (row_at rs v).level)

abbrev pub any_below : (ℕ → Bool) → ℕ → Bool
any_below test zero = false
any_below test (suc n) = test n || any_below test n

-- u is the parent of v, and p is below it
abbrev pub common_parent : List Row → ℕ → ℕ → ℕ → Bool
common_parent rs v p u = inside rs u v && (inside rs u p && one_below rs u v)

abbrev pub shares_parent : List Row → ℕ → ℕ → Bool
shares_parent rs v p = nat_eq (row_at rs p).level (row_at rs v).level
    && any_below (common_parent rs v p) v

abbrev pub sibling : List Row → ℕ → ℕ → Bool
sibling rs v p = shares_parent rs v p && (plain_row rs v && plain_row rs p)

abbrev pub in_region : Axis → List Row → ℕ → ℕ → Bool
in_region Child rs v p = inside rs v p && (one_below rs v p && plain_row rs p)
in_region Descendant rs v p = inside rs v p && plain_row rs p
in_region DescendantOrSelf rs v p = nat_eq v p || (inside rs v p && plain_row rs p)
in_region SelfNode rs v p = nat_eq v p
in_region Attributes rs v p = inside rs v p && (one_below rs v p && not (plain_row rs p))
in_region Parent rs v p = inside rs p v && one_below rs p v
in_region Ancestor rs v p = inside rs p v
in_region AncestorOrSelf rs v p = nat_eq v p || inside rs p v
in_region Following rs v p = after rs v p && plain_row rs p
in_region FollowingSibling rs v p = after rs v p && sibling rs v p
in_region Preceding rs v p = after rs p v && plain_row rs p
in_region PrecedingSibling rs v p = after rs p v && sibling rs v p
