-- What a result has to be so that its printed form can be read as a query: XML 1.0, section 2.2,
-- and XDM 3.1, sections 2.7 and 6.
use Rattle.std.specs.Prelude.{◌≡◌, List, [], ◌∷◌, true}
use Rattle.std.specs.List.{list_all}
use Rattle.std.specs.Str.{IsUtf8, chars}
use Rattle.xq_atoms.specs.Characters.{is_char}
use Rattle.xq_atoms.specs.Text.{Text}
use Rattle.xq_atoms.specs.Atom.{Atomic, Integer, Decimal, String, Boolean, Untyped, is_integer}
use Rattle.xq_atoms.specs.Decimal.{is_decimal}
use Rattle.xq_trees.specs.Tree.{Tree, IsTree}
use Rattle.xq_meaning.specs.Items.{Item, Node, Atom, tree_below}

-- UTF-8, of characters that a query may hold
abbrev pub IsCharacters : Text → Type 0
IsCharacters t = IsUtf8 t × (list_all is_char (chars t) ≡ true)

-- an atomic value within the bounds of its type
abbrev pub IsValue : Atomic → Type 0
IsValue (Integer n) = is_integer n ≡ true
IsValue (Decimal m) = is_decimal m ≡ true
IsValue (String t) = IsCharacters t
IsValue (Boolean b) = Unit {0}
IsValue (Untyped t) = IsCharacters t

-- such a value, or a node that is a tree with all that is below it
abbrev pub IsPrintable : List Tree → Item → Type 0
IsPrintable trees (Atom a) = IsValue a
IsPrintable trees (Node p) = IsTree (tree_below trees p)

-- each item is
abbrev pub ArePrintable : List Tree → List Item → Type 0
ArePrintable trees [] = Unit {0}
ArePrintable trees (x ∷ xs) = IsPrintable trees x × ArePrintable trees xs
