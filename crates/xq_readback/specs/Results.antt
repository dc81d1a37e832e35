-- What a query gives is legible: the texts of its result hold characters of XML, and its trees are
-- trees. So the result can be printed and read again, where its numbers are within the bounds of
-- their types, as those of the program are.
use Rattle.std.specs.Prelude.{◌≡◌, ℕ, List, true, Ok}
use Rattle.std.specs.List.{AllByRecursion}
use Rattle.xq_atoms.specs.Text.{Text}
use Rattle.xq_atoms.specs.Atom.{Atomic, Integer, Decimal, String, Boolean, Untyped, is_integer}
use Rattle.xq_atoms.specs.Decimal.{is_decimal}
use Rattle.xq_lexer.specs.Lexeme.{Lex}
use Rattle.xq_lexer.specs.Spelling.{Spells}
use Rattle.xq_expressions.specs.declared.expressions.Expr.{Expr}
use Rattle.xq_parser.specs.Grammar.{Derives}
use Rattle.xq_trees.specs.Tree.{Tree}
use Rattle.xq_meaning.specs.Items.{Item, Node, Atom}
use Rattle.xq_meaning.specs.Printable.{ArePrintable}
use Rattle.xq_meaning.specs.Meaning.{evaluated}
use Rattle.xq_readback.specs.Legible.{AreLegible, AreTrees}

-- Over documents that are trees, a query that these characters spell gives a legible result and
-- trees.
abbrev pub ResultsAreLegible : Type 0
ResultsAreLegible =
    (characters : List ℕ) (tokens : List Lex) (query : Expr) → Spells characters tokens
    → Derives tokens query
    → (addresses : List Text) (trees : List Tree) → AreTrees trees
    → (xs : List Item) (now : List Tree) → evaluated query addresses trees ≡ (Ok xs, now)
    → AreLegible xs × AreTrees now

-- a number is within the bounds of its type
abbrev pub IsInRange : Atomic → Type 0
IsInRange (Integer n) = is_integer n ≡ true
IsInRange (Decimal m) = is_decimal m ≡ true
IsInRange (String t) = Unit {0}
IsInRange (Boolean b) = Unit {0}
IsInRange (Untyped t) = Unit {0}

-- an item that is a number is
abbrev pub IsItemInRange : Item → Type 0
IsItemInRange (Node p) = Unit {0}
IsItemInRange (Atom a) = IsInRange a

-- each item that is one is
abbrev pub AreInRange : List Item → Type 0
AreInRange xs = AllByRecursion IsItemInRange xs

-- Legible items over trees are printable, where their numbers are in range.
abbrev pub LegibleIsPrintable : Type 0
LegibleIsPrintable = (trees : List Tree) (xs : List Item) → AreTrees trees → AreLegible xs
    → AreInRange xs → ArePrintable trees xs
