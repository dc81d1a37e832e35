-- What the items that code holds stand for over a list of trees: it knows a node by the number of
-- nodes before it, the standard by its path.
use Rattle.std.specs.Prelude.{◌≡◌, ◌++◌, List, map}
use Rattle.std.specs.List.{AllByRecursion}
use Rattle.xq_trees.specs.declared.items.Node.{Node as Spot}
use Rattle.xq_trees.specs.Items.{ItemView, Place as NodeAt, Value}
use Rattle.xq_trees.specs.Order.{path_at}
use Rattle.xq_trees.specs.Tree.{Tree}
use Rattle.xq_sources.specs.Sources.{HasNode}
use Rattle.xq_meaning.specs.Items.{Place, place, Item, Node, Atom, nodes_at}

-- the node with so many others before it in its tree
abbrev pub node_at : List Tree → Spot → Place
node_at trees n = place n.tree (path_at (nodes_at trees n.tree) n.pre)

-- the item that an item of code stands for
abbrev pub item_at : List Tree → ItemView → Item
item_at trees (NodeAt n) = Node (node_at trees n)
item_at trees (Value a) = Atom a

-- the items that items of code stand for, in order
abbrev pub items_at : List Tree → List ItemView → List Item
items_at trees xs = map (item_at trees) xs

-- a node is one of the trees
abbrev pub IsIn : List Tree → ItemView → Type 0
IsIn trees (NodeAt n) = HasNode trees n.tree n.pre
IsIn trees (Value a) = Unit {0}

-- each node among the items is one of the trees
abbrev pub AreIn : List Tree → List ItemView → Type 0
AreIn trees xs = AllByRecursion (IsIn trees) xs

-- the trees begin with the old ones
pub record Extends (old new : List Tree) : Type 0 where
  pub added : List Tree
  pub is : new ≡ old ++ added
