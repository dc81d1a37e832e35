-- Steps from many nodes.
use Rattle.std.specs.Prelude.{ℕ, ◌<◌, ◌≤◌, ◌≡◌, ◌↔◌, List, [], ◌∷◌, length, map, take, Bool, ◌||◌, slice_index, slice_index_or}
use Rattle.std.specs.List.{list_any, flat_map, Contains}
use Rattle.xq_trees.specs.Forest.{count}
use Rattle.xq_trees.specs.Tree.{Tree, nodes}
use Rattle.xq_trees.specs.declared.Axis.{Axis}
use Rattle.xq_trees.specs.declared.items.Node.{Node}
use Rattle.xq_sources.specs.Sources.{tree_at, HasNode}
use Rattle.xq_meaning.specs.declared.node_tests.Test.{Test}
use Rattle.xq_meaning.specs.Items.{in_document_order}
use Rattle.xq_meaning.specs.Readings.{node_at}
use Rattle.xq_meaning.specs.Steps.{axis_nodes}
use Rattle.xq_trees.specs.Rising.{AreRising}
use Rattle.xq_axes.specs.Nodes.{HaveAll}
use Rattle.xq_axes.specs.private.Hits.{is_wanted, below_where, IsRising}

-- the node of the tree n at the place p
abbrev pub spot : ℕ → ℕ → Node
spot n p = record { tree = n; pre = p }

-- the tree has nodes at all of the places
abbrev pub AreThere : List Tree → ℕ → List ℕ → Type 0
AreThere trees tree vs = (i : ℕ) → i < length vs → HasNode trees tree (slice_index vs i)

-- the places on the axis from the place, whose nodes pass the test
abbrev pub places_from : Axis → Test → Tree → ℕ → List ℕ
places_from axis test t v = below_where (is_wanted axis test t (v ∷ [])) (count (nodes t))

-- whether some node on the axis from the node that passes the test is such
abbrev pub is_found_from : List Tree → Axis → Test → (Node → Bool) → Node → Bool
is_found_from trees axis test p n = list_any p
    (map (spot n.tree) (places_from axis test (tree_at trees n.tree) n.pre))

-- the node is the next of the contexts, which rise
pub record IsNext (trees : List Tree) (contexts : List Node) (index : ℕ) (n : Node) : Type 0 where
  pub rising : AreRising contexts
  pub there : HaveAll trees contexts
  pub within : index < length contexts
  pub is : n ≡ slice_index_or contexts index n

-- of the contexts before the index those of the last tree were gathered, and what is on the axis
-- from the others was found
pub record IsGathered (trees : List Tree) (axis : Axis) (test : Test) (contexts : List Node)
    (index tree : ℕ) (places : List ℕ) (found : List Node) : Type 0 where
  pub rising : IsRising places
  pub there : AreThere trees tree places
  pub later : (j : ℕ) (n : Node) → index ≤ j → j < length contexts
      → (slice_index_or contexts j n).tree ≡ tree → (i : ℕ) → i < length places
      → slice_index places i < (slice_index_or contexts j n).pre
  pub is_found : (p : Node → Bool)
      → (list_any p found || list_any (is_found_from trees axis test p) (map (spot tree) places))
      ≡ list_any (is_found_from trees axis test p) (take index contexts)

-- these lists have the same nodes
abbrev pub AreSame : List Node → List Node → Type 0
AreSame ms ns = (n : Node) → Contains ms n ↔ Contains ns n

-- the node is the one at the index
pub record IsAt (contexts : List Node) (index : ℕ) (n : Node) : Type 0 where
  pub within : index < length contexts
  pub is : n ≡ slice_index_or contexts index n

-- the contexts before the index, which are of one tree, were gathered
abbrev pub AreKept : List Node → ℕ → ℕ → List ℕ → Type 0
AreKept contexts index tree places = map (spot tree) places ≡ take index contexts

-- in a tree: the places found are those of the nodes on the axis from the nodes at the places that
-- pass the test, in document order, each once
pub record AreReached (trees : List Tree) (axis : Axis) (test : Test) (tree : ℕ)
    (places found : List ℕ) : Type 0 where
  pub in_order : map (node_at trees) (map (spot tree) found) ≡ in_document_order trees
      (flat_map (axis_nodes trees axis test) (map (node_at trees) (map (spot tree) places)))
  pub there : HaveAll trees (map (spot tree) found)
  pub rising : AreRising (map (spot tree) found)
