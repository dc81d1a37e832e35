-- What `//` and a step to children lead to: XPath 3.1, section 3.3.5.
use Rattle.std.specs.Prelude.{ℕ, ◌≡◌, List, map}
use Rattle.std.specs.List.{flat_map}
use Rattle.xq_trees.specs.Rising.{AreRising}
use Rattle.xq_trees.specs.Tree.{Tree}
use Rattle.xq_trees.specs.declared.Axis.TheVariants.{Child, DescendantOrSelf}
use Rattle.xq_meaning.specs.Items.{Place, in_document_order}
use Rattle.xq_meaning.specs.Readings.{node_at}
use Rattle.xq_meaning.specs.Steps.{axis_nodes}
use Rattle.xq_meaning.specs.declared.node_tests.Test.{Test}
use Rattle.xq_meaning.specs.declared.node_tests.Test.TheVariants.{Any}
use Rattle.xq_axes.specs.Many.{spot}
use Rattle.xq_axes.specs.Nodes.{HaveAll}

-- these nodes and all that is below them: descendant-or-self::node()
abbrev pub selves_and_below : List Tree → List Place → List Place
selves_and_below trees ps =
    in_document_order trees (flat_map (axis_nodes trees DescendantOrSelf Any) ps)

-- the children of all those that pass the test, in document order, each once
abbrev pub after_double_slash : List Tree → Test → List Place → List Place
after_double_slash trees test ps =
    in_document_order trees (flat_map (axis_nodes trees Child test) (selves_and_below trees ps))

-- in a tree: the places found are those of these nodes, from the nodes at the places
pub record AreAfterDoubleSlash (trees : List Tree) (test : Test) (tree : ℕ)
    (places found : List ℕ) : Type 0 where
  pub in_order : map (node_at trees) (map (spot tree) found)
      ≡ after_double_slash trees test (map (node_at trees) (map (spot tree) places))
  pub there : HaveAll trees (map (spot tree) found)
  pub rising : AreRising (map (spot tree) found)
