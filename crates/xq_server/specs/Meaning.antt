-- What the text of a query means. This module alone changes as the language grows: what a query is,
-- which texts read as one, its value over the documents, the value's printed form, and the one
-- document node that the value is.
use Rattle.std.specs.Prelude.{ℕ, List, Option, Result}
use Rattle.std.specs.FinMap.{keys, values}
use Rattle.xq_atoms.specs.declared.refusals.Code.{Code}
use Rattle.xq_expressions.specs.declared.expressions.Expr.{Expr}
use Rattle.xq_trees.specs.Tree.{Tree}
use Rattle.xq_tables.specs.Documents.{Map}
use Rattle.xq_queries.specs.Reading as reading
use Rattle.xq_queries.specs.Values as values_of

-- A query is an expression of the language.
abbrev pub Query : Type 0
Query = Expr

-- The text reads as this query, or has this fault: all that is judged before evaluation.
abbrev pub Reads : List ℕ → Result Query Code → Type 0
Reads = reading.Reads

-- The value of a query is a sequence of items, with the trees that their nodes are of.
abbrev pub Value : Type 0
Value = values_of.Value

-- It is that over the documents in the order of their addresses, which are the first trees.
abbrev pub value : Query → Map → Result Value Code
value query documents = values_of.value query (keys documents) (values documents)

-- the text of the value
abbrev pub printed : Value → List ℕ
printed = values_of.printed

-- the one document node that the value is
abbrev pub document : Value → Option Tree
document = values_of.document
