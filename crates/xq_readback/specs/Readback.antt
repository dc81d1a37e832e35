-- What is printed of a result can be read back: three laws, each about every printable result.
use Rattle.std.specs.Prelude.{◌≡◌, ◌≤◌, List, ◌++◌, Ok, None}
use Rattle.std.specs.Str.{IsUtf8, chars}
use Rattle.xq_atoms.specs.Text.{Text}
use Rattle.xq_lexer.specs.Nesting.{deepest_nesting, nesting}
use Rattle.xq_lexer.specs.Spelling.{Spells}
use Rattle.xq_parser.specs.Grammar.{Derives}
use Rattle.xq_statics.specs.Statics.{static_fault}
use Rattle.xq_trees.specs.Tree.{Tree}
use Rattle.xq_meaning.specs.Items.{Item}
use Rattle.xq_meaning.specs.Print.{print_items}
use Rattle.xq_meaning.specs.Printable.{ArePrintable}
use Rattle.xq_meaning.specs.Meaning.{evaluated}
use Rattle.xq_readback.specs.Quoted.{quoted_items, items_tokens}
use Rattle.xq_readback.specs.Same.{SameItems}

-- The printed form spells the tokens of the quoted expression.
abbrev pub PrintSpells : Type 0
PrintSpells = (trees : List Tree) (xs : List Item) → ArePrintable trees xs
    → IsUtf8 (print_items trees xs)
    → Spells (chars (print_items trees xs)) (items_tokens trees xs)

-- These tokens derive the quoted expression, which has no static fault, and nest no deeper than a
-- query may.
abbrev pub TokensDerive : Type 0
TokensDerive = (trees : List Tree) (xs : List Item) → ArePrintable trees xs
    → (nesting (items_tokens trees xs) ≤ deepest_nesting)
    × Derives (items_tokens trees xs) (quoted_items trees xs)
    × (static_fault (quoted_items trees xs) ≡ None)

-- Over the documents at these addresses, which are the other trees, the quoted expression gives
-- items that are the same by value, adds trees alone, and the items have the same printed form.
pub record GivesAgain (trees : List Tree) (xs : List Item) (addresses : List Text)
    (others : List Tree) : Type 0 where
  pub items : List Item
  pub added : List Tree
  pub is : evaluated (quoted_items trees xs) addresses others ≡ (Ok items, others ++ added)
  pub same : SameItems trees xs (others ++ added) items
  pub printed : print_items (others ++ added) items ≡ print_items trees xs

-- So it does over any documents.
abbrev pub QuotedGives : Type 0
QuotedGives = (trees : List Tree) (xs : List Item) → ArePrintable trees xs
    → (addresses : List Text) (others : List Tree) → GivesAgain trees xs addresses others
