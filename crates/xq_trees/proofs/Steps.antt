-- A path read as XDM 3.1 says it: attributes and children of an element are numbered apart there,
-- and as one run here, attributes first.
use Rattle.std.proofs.Common.{zero, suc}
use Rattle.std.specs.Prelude.{ℕ, ◌-◌, List, [], ◌∷◌, drop, if◌then◌else◌, nat_lt}
use Rattle.std.specs.List.{prefix_len}
use Rattle.xq_trees.specs.Forest.{Forest, end, node, tops}
use Rattle.xq_trees.specs.Tree.{Label, Tree, is_attribute}

-- A path of a tree, read as steps from its root: to an attribute or a child, by its number among
-- its like.
pub data Step : Type 0 where
  attribute : ℕ → Step
  child : ℕ → Step

-- how many attributes stand at the front
abbrev pub attribute_count : List Label → ℕ
attribute_count labels = prefix_len (λ (a : Label). is_attribute a.kind) labels

-- the step to the node with this number among the attributes and children
abbrev pub step_to : List Label → ℕ → Step
step_to labels i = if nat_lt i (attribute_count labels) then attribute i
    else child (i - attribute_count labels)

-- what is below the node with this number at the top
abbrev pub below_top : {A : Type 0} → Forest A → ℕ → Forest A
below_top end i = end
below_top (node a below beside) zero = below
below_top (node a below beside) (suc i) = below_top beside i

abbrev pub steps_in : Forest Label → List ℕ → List Step
steps_in f [] = []
steps_in f (i ∷ path) = step_to (tops f) i ∷ steps_in (below_top f i) path

-- the steps from the root: none for the root itself
abbrev pub steps : Tree → List ℕ → List Step
steps t path = steps_in t.below (drop 1 path)
