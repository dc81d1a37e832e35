-- Items (XDM 3.1, 2.1): atomic values, and nodes of a list of trees; and what nodes are worth.
use Rattle.std.proofs.Common.{suc}
use Rattle.std.specs.Prelude.{ℕ, List, [], ◌∷◌, ◌++◌, map, filter, Bool, ◌&&◌, ◌||◌, ◌==◌, nat_lt}
use Rattle.std.specs.List.{list_any}
use Rattle.xq_atoms.specs.Atom.{Atomic, String, Untyped}
use Rattle.xq_trees.specs.Forest.{Forest, end, node}
use Rattle.xq_trees.specs.Tree.{Label, Tree, nodes, no_label}
use Rattle.xq_trees.specs.Node.{label_at as label_in, subtree}
use Rattle.xq_trees.specs.Order.{step_down, step_right}
use Rattle.xq_trees.specs.AxisTests.{is_above, is_left_of, is_same}
use Rattle.xq_sources.specs.Sources.{tree_at}
use Rattle.xq_trees.specs.Value.{TypedValue, string, untyped, typed_value}

-- a node: the number of its tree, and the path from the root
pub record Place : Type 0 where
  pub tree : ℕ
  pub path : List ℕ

-- a node, by its place, or an atomic value
pub data Item : Type 0 where
  Node : Place → Item
  Atom : Atomic → Item

-- the node of that tree at that path
abbrev pub place : ℕ → List ℕ → Place
place tree path = record { tree = tree; path = path }

-- the root of a tree
abbrev pub root_of : ℕ → Place
root_of tree = place tree (0 ∷ [])

-- # Document order: XDM 3.1, 2.4

-- the two are one node
abbrev pub same_node : Place → Place → Bool
same_node p q = p.tree == q.tree && is_same p.path q.path

-- a path that is above the other one, or to its left
abbrev pub comes_first : List ℕ → List ℕ → Bool
comes_first v w = is_above v w || is_left_of v w

-- trees stand by their numbers; in a tree, a node before what is below it and to its right
abbrev pub is_before : Place → Place → Bool
is_before p q = nat_lt p.tree q.tree || (p.tree == q.tree && comes_first p.path q.path)

-- the paths of all nodes, a node before what is below it
abbrev pub paths : {A : Type 0} → Forest A → List (List ℕ)
paths end = []
paths (node a below beside) =
    (0 ∷ []) ∷ map step_down (paths below) ++ map step_right (paths beside)

-- all nodes of trees with numbers from n on, in document order
abbrev pub places_from : ℕ → List Tree → List Place
places_from n [] = []
places_from n (t ∷ ts) = map (place n) (paths (nodes t)) ++ places_from (suc n) ts

-- the node is in the list
abbrev pub is_among : List Place → Place → Bool
is_among places p = list_any (same_node p) places

-- the nodes of the list in document order, each once
abbrev pub in_document_order : List Tree → List Place → List Place
in_document_order trees places = filter (is_among places) (places_from 0 trees)

-- # Trees, labels and values of nodes

-- the nodes of the tree with that number
abbrev pub nodes_at : List Tree → ℕ → Forest Label
nodes_at trees n = nodes (tree_at trees n)

-- the kind, the name and the value of a node
abbrev pub label_at : List Tree → Place → Label
label_at trees p = label_in no_label (nodes_at trees p.tree) p.path

-- the node with all that is below it
abbrev pub tree_below : List Tree → Place → Tree
tree_below trees p = subtree (tree_at trees p.tree) p.path

-- a typed value as an atomic value
abbrev pub atomic_value : TypedValue → Atomic
atomic_value (string t) = String t
atomic_value (untyped t) = Untyped t

-- XQuery 3.1, 2.4.2: atomization
abbrev pub atom_of : List Tree → Item → Atomic
atom_of trees (Node p) = atomic_value (typed_value (tree_below trees p))
atom_of trees (Atom a) = a

-- XQuery 3.1, 2.4.2: each item atomized, in order
abbrev pub atomized : List Tree → List Item → List Atomic
atomized trees xs = map (atom_of trees) xs
