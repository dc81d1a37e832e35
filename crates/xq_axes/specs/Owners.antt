-- Nodes that have an attribute with a given name and value.
use Rattle.std.specs.Prelude.{ℕ, List, Bool, false}
use Rattle.std.specs.List.{list_any}
use Rattle.xq_atoms.specs.Text.{Text}
use Rattle.xq_trees.specs.Items.{ItemView, Place as NodeAt, Value}
use Rattle.xq_trees.specs.RegionTests.{in_region}
use Rattle.xq_trees.specs.Rows.{rows}
use Rattle.xq_trees.specs.Tree.{Tree}
use Rattle.xq_trees.specs.declared.Axis.TheVariants as axis
use Rattle.xq_packed.specs.Values.{valued}
use Rattle.xq_sources.specs.Sources.{tree_at}

-- the node at place k is the parent of an attribute with this name and this value
abbrev pub owns_valued : Tree → Text → Text → ℕ → Bool
owns_valued t name value k =
    list_any (λ p. in_region axis.Parent (rows t) p k) (valued (rows t) name value)

-- an item that code holds is a node, and the parent of an attribute with this name and this value
abbrev pub has_valued : List Tree → Text → Text → ItemView → Bool
has_valued trees name value (NodeAt n) = owns_valued (tree_at trees n.tree) name value n.pre
has_valued trees name value (Value a) = false
