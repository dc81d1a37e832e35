-- Content that is known to have too many nodes: what is judged of it needs no copies.
use Rattle.std.specs.Prelude.{ℕ, ◌≡◌, ◌<◌, ◌≤◌, List, [], ◌∷◌, ◌++◌, filter, length, Bool, true, false, not, ◌&&◌, ◌||◌, ◌==◌, nat_le, nat_eq, Option}
use Rattle.std.specs.List.{list_any}
use Rattle.xq_atoms.specs.Text.{Text}
use Rattle.xq_atoms.specs.declared.refusals.Code.{Code}
use Rattle.xq_trees.specs.Forest.{Forest}
use Rattle.xq_trees.specs.Tree.{Label, Tree, is_attribute, most_nodes}
use Rattle.xq_trees.specs.declared.Kind.{Kind}
use Rattle.xq_trees.specs.declared.items.Node.{Node}
use Rattle.xq_meaning.specs.Content.{is_text, copied, flattened}
use Rattle.xq_meaning.specs.Items.{Item, tree_below}
use Rattle.xq_meaning.specs.Readings.{node_at}
use Rattle.xq_build.specs.private.Leaves.{Leaf, leaves}
use Rattle.xq_build.specs.private.Attributes.{fault_from}
use Rattle.xq_build.specs.private.Content.{is_top_text, is_kept, are_low, so_far, flattened_with, Childless}

-- a node that stays a node of its own, whatever stands beside it
abbrev pub is_firm : Leaf → Bool
is_firm p = not (is_top_text p)

abbrev pub firm_count : List Leaf → ℕ
firm_count ps = length (filter is_firm ps)

-- after this node at the top each attribute is too late
abbrev pub is_late : Leaf → Bool
is_late p = p.0 == 0 && not (is_text p.1.kind || is_attribute p.1.kind)

-- there are too many nodes, and each later attribute is too late
abbrev pub is_full : List Leaf → Bool
is_full ps = nat_le most_nodes (firm_count ps) && list_any is_late ps

abbrev pub is_top_attribute : Leaf → Bool
is_top_attribute p = p.0 == 0 && is_attribute p.1.kind

-- the fault of the attributes where empty texts do not count
abbrev pub kept_fault : Kind → List Text → Bool → List Leaf → Option Code
kept_fault parent names late ps = fault_from parent names late (filter is_kept ps)

-- nodes that are judged as others are, and are those others where they are not too many
pub record Alike (ps qs : List Leaf) : Type 0 where
  pub fault : (parent : Kind) (names : List Text) (late : Bool)
      → kept_fault parent names late ps ≡ kept_fault parent names late qs
  pub low : are_low ps ≡ are_low qs
  pub few : firm_count ps < most_nodes → ps ≡ qs
  pub many : most_nodes ≤ firm_count ps → most_nodes ≤ firm_count qs

-- the same of content
pub record StandsFor (ps : List Leaf) (f : Forest Label) : Type 0 where
  pub fault : (parent : Kind)
      → fault_from parent [] false ps ≡ fault_from parent [] false (leaves f)
  pub low : are_low ps ≡ are_low (leaves f)
  pub few : length ps < most_nodes → ps ≡ leaves f
  pub many : most_nodes ≤ length ps → most_nodes ≤ length (leaves f)

-- the copy of a node
abbrev pub copy_of : List Tree → Node → List Leaf
copy_of trees n = leaves (copied (tree_below trees (node_at trees n)))

-- the copies of the roots of these trees are low, or the nodes are high without them
abbrev pub AreSeen : List Tree → List Leaf → List ℕ → Type 0
AreSeen trees ps keys = (tree : ℕ) → list_any (nat_eq tree) keys ≡ true → are_low ps ≡ true
    → are_low (copy_of trees (record { tree = tree; pre = 0 })) ≡ true

-- a node was judged, after nodes that are too many
pub record Shortens (trees : List Tree) (n : Node) (before after : List Leaf)
    (keys : List ℕ) : Type 0 where
  pub is : is_full before ≡ true → (others : List Leaf)
      → Alike (after ++ others) (before ++ (copy_of trees n ++ others))
  pub full : is_full before ≡ true → is_full after ≡ true
  pub seen : AreSeen trees after keys

-- an item was taken
pub record Takes (trees : List Tree) (x : Item) (before : List Leaf) (run : Option Text)
    (after : List Leaf) (next : Option Text) (keys : List ℕ) : Type 0 where
  pub is : (xs : List Item) → Alike (so_far trees after next xs) (so_far trees before run (x ∷ xs))
  pub childless : (xs : List Item) → Childless (flattened_with trees next xs)
      → Childless (flattened_with trees run (x ∷ xs))
  pub full : is_full before ≡ true → is_full after ≡ true
  pub seen : AreSeen trees after keys

-- the leaves of the items as nodes
pub record Flattens (trees : List Tree) (xs : List Item) (ps : List Leaf) : Type 0 where
  pub is : Alike ps (leaves (flattened trees xs))
  pub childless : Childless (flattened trees xs)
