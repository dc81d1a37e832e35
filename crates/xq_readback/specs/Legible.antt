-- Values whose texts hold characters of XML alone: XML 1.0, section 2.2.
use Rattle.std.specs.Prelude.{List}
use Rattle.std.specs.List.{AllByRecursion}
use Rattle.xq_atoms.specs.Atom.{Atomic, Integer, Decimal, String, Boolean, Untyped}
use Rattle.xq_trees.specs.Tree.{Tree, IsTree}
use Rattle.xq_meaning.specs.Items.{Item, Node, Atom}
use Rattle.xq_meaning.specs.Printable.{IsCharacters}

-- an atomic value that is a text holds characters
abbrev pub IsLegible : Atomic → Type 0
IsLegible (Integer n) = Unit {0}
IsLegible (Decimal m) = Unit {0}
IsLegible (String t) = IsCharacters t
IsLegible (Boolean b) = Unit {0}
IsLegible (Untyped t) = IsCharacters t

-- an item that is an atomic value does; of a node its tree says so
abbrev pub IsLegibleItem : Item → Type 0
IsLegibleItem (Node p) = Unit {0}
IsLegibleItem (Atom a) = IsLegible a

-- each item does
abbrev pub AreLegible : List Item → Type 0
AreLegible xs = AllByRecursion IsLegibleItem xs

-- each of the trees is a tree of XDM, whose texts hold characters
abbrev pub AreTrees : List Tree → Type 0
AreTrees trees = AllByRecursion IsTree trees
