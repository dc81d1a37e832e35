-- What contracts see of items (XDM 3.1, section 2.5): a node by its place, or an atomic value.
use Rattle.std.specs.Prelude.{List, map}
use Rattle.std.specs.Global.{Vec}
use Rattle.xq_atoms.specs.Atom.{Atomic, atomic_of}
use Rattle.xq_trees.specs.declared.items.Node.{Node}
use Rattle.xq_trees.specs.declared.items.Item.{Item}
use Rattle.xq_trees.specs.declared.items.Item.TheVariants.{Node as NodeItem, Atom as AtomItem}

-- a node, by its number of tree and its place, or an atomic value
pub data ItemView : Type 0 where
  Place : Node → ItemView
  Value : Atomic → ItemView

-- what contracts see of an item
abbrev pub item_view : Item → ItemView
item_view (NodeItem node) = Place node
item_view (AtomItem atom) = Value (atomic_of atom)

-- what contracts see of the items of a list
abbrev pub item_views : Vec Item → List ItemView
item_views items = map item_view items.items
