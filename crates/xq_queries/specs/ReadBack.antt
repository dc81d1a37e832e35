-- The text of a value, read as a query over any documents: it has an equal value and the same text.
use Rattle.std.specs.Prelude.{◌≡◌, ℕ, List, Ok}
use Rattle.std.specs.Str.{IsUtf8}
use Rattle.xq_atoms.specs.Judged.{Judged}
use Rattle.xq_atoms.specs.Text.{Text}
use Rattle.xq_expressions.specs.declared.expressions.Expr.{Expr}
use Rattle.xq_trees.specs.Tree.{Tree}
use Rattle.xq_meaning.specs.Printable.{ArePrintable}
use Rattle.xq_readback.specs.Same.{SameItems}
use Rattle.xq_readback.specs.Legible.{AreTrees}
use Rattle.xq_readback.specs.Results.{AreInRange}
use Rattle.xq_queries.specs.Reading.{Reads, IsRead}
use Rattle.xq_queries.specs.Values.{Value, value, printed}

-- Over the documents at these addresses, which are these trees, the text of the value reads as an
-- expression, and that has an equal value with the same text.
pub record ReadsAgain (v : Value) (addresses : List Text) (others : List Tree) : Type 0 where
  pub expression : Expr
  pub reads : Reads (printed v) (Ok expression)
  pub again : Value
  pub is : value expression addresses others ≡ Ok again
  pub same : SameItems v.1 v.0 again.1 again.0
  pub text : printed again ≡ printed v

-- A printable value does, over any documents, where its text is UTF-8.
abbrev pub ReadsBack : Type 0
ReadsBack = (v : Value) → ArePrintable v.1 v.0 → IsUtf8 (printed v)
    → (addresses : List Text) (others : List Tree) → ReadsAgain v addresses others

-- where there is a value, its numbers are within the bounds of their types
abbrev pub HaveNumbersInRange : Judged Value → Type 0
HaveNumbersInRange r = (v : Value) → r ≡ Ok v → AreInRange v.0

-- The value of what a text reads as is printable, over documents that are trees, where its numbers
-- are in range.
abbrev pub ValuesArePrintable : Type 0
ValuesArePrintable = (text : List ℕ) (e : Expr) → IsRead text e
    → (addresses : List Text) (trees : List Tree) → AreTrees trees
    → (v : Value) → value e addresses trees ≡ Ok v → AreInRange v.0 → ArePrintable v.1 v.0
