-- What trees, paths and rows have to do with each other.
use Rattle.std.specs.Prelude.{ℕ, ◌≡◌, ◌<◌, ◌↔◌, List}
use Rattle.xq_trees.specs.Forest.{count}
use Rattle.xq_trees.specs.Tree.{Tree, nodes}
use Rattle.xq_trees.specs.Node.{HasPath}
use Rattle.xq_trees.specs.Order.{IsBefore, place_of, path_at}
use Rattle.xq_trees.specs.Axis.{IsOnAxis}
use Rattle.xq_trees.specs.Rows.{rows}
use Rattle.xq_trees.specs.Regions.{IsInRegion}
use Rattle.xq_trees.specs.declared.Axis.{Axis}

-- two trees with equal rows are equal
abbrev pub RowsTellTrees : Type 0
RowsTellTrees = (t u : Tree) → rows t ≡ rows u → t ≡ u

-- each path of a node has a place, and leads back from it
abbrev pub PathsHavePlaces : Type 0
PathsHavePlaces = (t : Tree) (p : List ℕ) → HasPath (nodes t) p
    → (place_of (nodes t) p < count (nodes t)) × (path_at (nodes t) (place_of (nodes t) p) ≡ p)

-- each place of a node has a path, and leads back from it
abbrev pub PlacesHavePaths : Type 0
PlacesHavePaths = (t : Tree) (n : ℕ) → n < count (nodes t)
    → HasPath (nodes t) (path_at (nodes t) n) × (place_of (nodes t) (path_at (nodes t) n) ≡ n)

-- document order is the order of the places
abbrev pub OrderIsThatOfPlaces : Type 0
OrderIsThatOfPlaces = (t : Tree) (p q : List ℕ) → HasPath (nodes t) p → HasPath (nodes t) q
    → IsBefore p q ↔ (place_of (nodes t) p < place_of (nodes t) q)

-- a node is on an axis where its row is in the region of the axis
abbrev pub AxesAreRegions : Type 0
AxesAreRegions =
    (axis : Axis) (t : Tree) (v w : List ℕ) → HasPath (nodes t) v → HasPath (nodes t) w
    → IsOnAxis axis (nodes t) v w
    ↔ IsInRegion axis (rows t) (place_of (nodes t) v) (place_of (nodes t) w)
