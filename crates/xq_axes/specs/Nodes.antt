-- Nodes by the number of their tree and their place in it, over trees.
use Rattle.std.specs.List.{AllByRecursion, flat_map}
use Rattle.std.specs.Prelude.{ℕ, ◌≡◌, ◌-◌, List, [], ◌∷◌, map, take, drop, length}
use Rattle.xq_trees.specs.Items.{ItemView, Place as NodeAt}
use Rattle.xq_trees.specs.Rising.{AreRising}
use Rattle.xq_trees.specs.Tree.{Tree}
use Rattle.xq_trees.specs.declared.Axis.{Axis}
use Rattle.xq_trees.specs.declared.items.Node.{Node}
use Rattle.xq_sources.specs.Sources.{HasNode}
use Rattle.xq_meaning.specs.declared.node_tests.Test.{Test}
use Rattle.xq_meaning.specs.Items.{in_document_order}
use Rattle.xq_meaning.specs.Readings.{node_at}
use Rattle.xq_meaning.specs.Steps.{axis_nodes}

-- the trees have all of the nodes
abbrev pub HaveAll : List Tree → List Node → Type 0
HaveAll trees ns = AllByRecursion (λ n. HasNode trees n.tree n.pre) ns

-- the items are the nodes on the axis from the node that pass the test, in document order, each once
pub record AreOnAxis (trees : List Tree) (axis : Axis) (test : Test) (n : Node)
    (items : List ItemView) : Type 0 where
  pub nodes : List Node
  pub are : items ≡ map NodeAt nodes
  pub on_axis : map (node_at trees) nodes ≡ axis_nodes trees axis test (node_at trees n)
  pub in_order : map (node_at trees) nodes
      ≡ in_document_order trees (flat_map (axis_nodes trees axis test) (node_at trees n ∷ []))
  pub there : HaveAll trees nodes
  pub rising : AreRising nodes

-- the items are the first of these, so many at most, in document order
pub record AreFirstOnAxis (trees : List Tree) (axis : Axis) (test : Test) (n : Node) (most : ℕ)
    (items : List ItemView) : Type 0 where
  pub nodes : List Node
  pub are : items ≡ map NodeAt nodes
  pub on_axis : map (node_at trees) nodes ≡ take most (axis_nodes trees axis test (node_at trees n))
  pub there : HaveAll trees nodes

-- the last of some, where there is one
abbrev pub last_of : {A : Type 0} → List A → List A
last_of xs = drop (length xs - 1) xs

-- the items are the last of these, where there is one
pub record IsLastOnAxis (trees : List Tree) (axis : Axis) (test : Test) (n : Node)
    (items : List ItemView) : Type 0 where
  pub nodes : List Node
  pub are : items ≡ map NodeAt nodes
  pub on_axis : map (node_at trees) nodes ≡ last_of (axis_nodes trees axis test (node_at trees n))
  pub there : HaveAll trees nodes
