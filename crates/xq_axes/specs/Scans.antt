-- The rows of ranges that a step has to read, and those that it may look at.
use Rattle.std.specs.Prelude.{ℕ, ◌≡◌, List, [], ◌∷◌, map, filter, Bool, false, ◌||◌, nat_eq, nat_lt, nat_le}
use Rattle.std.specs.List.{list_any, range_with_len, AllByRecursion}
use Rattle.xq_trees.specs.Forest.{count}
use Rattle.xq_trees.specs.Tree.{Tree, nodes}
use Rattle.xq_trees.specs.Rows.{Row, rows}
use Rattle.xq_trees.specs.RegionTests.{inside, after}
use Rattle.xq_trees.specs.declared.Axis.{Axis}
use Rattle.xq_trees.specs.declared.Axis.TheVariants.{Child, Descendant, DescendantOrSelf, SelfNode, Attributes, Parent, Ancestor, AncestorOrSelf, Following, FollowingSibling, Preceding, PrecedingSibling}
use Rattle.xq_trees.specs.declared.items.Node.{Node}

-- the row p is in the region of the axis from v: below it; below it or its own; after its rows;
-- before it; before it or its own; its own or after it.
-- What is above a node, or beside it on one side, is found by levels alone, from rows before it or
-- after it; so these regions don't end with its parent's rows. Nodes alone are read singly, so the
-- self axis has none.
abbrev pub in_scan : Axis → List Row → ℕ → ℕ → Bool
in_scan Child rs v p = inside rs v p
in_scan Attributes rs v p = inside rs v p
in_scan Descendant rs v p = inside rs v p
in_scan DescendantOrSelf rs v p = nat_eq v p || inside rs v p
in_scan Following rs v p = after rs v p
in_scan Preceding rs v p = nat_lt p v
in_scan Ancestor rs v p = nat_le p v
in_scan AncestorOrSelf rs v p = nat_le p v
in_scan Parent rs v p = nat_le p v
in_scan PrecedingSibling rs v p = nat_le p v
in_scan FollowingSibling rs v p = nat_le v p
in_scan SelfNode rs v p = false

-- the rows that are in the region of the axis from one of the places, each once
abbrev pub region : Axis → Tree → List ℕ → List ℕ
region axis t vs = filter (λ p. list_any (λ v. in_scan axis (rows t) v p) vs)
    (range_with_len 0 (count (nodes t)))

-- how many rows a step from these places may look at: those of the tree, and none from no place
abbrev pub rows_from : Tree → List ℕ → ℕ
rows_from t [] = 0
rows_from t (v ∷ vs) = count (nodes t)

-- the nodes are of the tree with this number
abbrev pub AreOf : ℕ → List Node → Type 0
AreOf tree ns = AllByRecursion (λ n. n.tree ≡ tree) ns

-- the places of these nodes, each in its tree
abbrev pub places_of : List Node → List ℕ
places_of ns = map (λ n. n.pre) ns
