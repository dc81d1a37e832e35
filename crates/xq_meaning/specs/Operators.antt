-- Operators on the values of their operands: XQuery 3.1, 3.4 to 3.7. Both operands are evaluated
-- before; here the left one is judged, and then the right one.
use Rattle.std.proofs.Common.{zero, suc}
use Rattle.std.specs.Prelude.{ℕ, ◌+◌, ℤ, pos, nat_abs, ◌+ℤ◌, ◌-ℤ◌, int_lt, List, [], ◌∷◌, ◌++◌, map, filter, Bool, true, false, not, nat_le, Ok, Err, if◌then◌else◌}
use Rattle.std.specs.Ordering.{int_eq}
use Rattle.xq_atoms.specs.declared.refusals.Code.TheVariants.{XPTY0004, XPTY0018, ProfRange}
use Rattle.xq_atoms.specs.declared.comparisons.CompOp.{CompOp}
use Rattle.xq_atoms.specs.declared.comparisons.CompOp.TheVariants as comp
use Rattle.xq_expressions.specs.declared.operators.Sign.{Sign}
use Rattle.xq_expressions.specs.declared.operators.Sign.TheVariants.{Plus, Minus}
use Rattle.xq_expressions.specs.declared.operators.ProductOperator.{ProductOperator}
use Rattle.xq_expressions.specs.declared.operators.ProductOperator.TheVariants.{Times, Div, Idiv, Mod}
use Rattle.xq_expressions.specs.declared.operators.SetOperator.{SetOperator}
use Rattle.xq_expressions.specs.declared.operators.SetOperator.TheVariants.{Intersect, Except}
use Rattle.xq_expressions.specs.declared.operators.Relation.{Relation}
use Rattle.xq_expressions.specs.declared.operators.Relation.TheVariants as relation
use Rattle.xq_expressions.specs.declared.operators.NodeComparison.{NodeComparison}
use Rattle.xq_expressions.specs.declared.operators.NodeComparison.TheVariants.{Is, Precedes, Follows}
use Rattle.xq_expressions.specs.declared.operators.ComparisonOperator.{ComparisonOperator}
use Rattle.xq_expressions.specs.declared.operators.ComparisonOperator.TheVariants as comparing
use Rattle.xq_atoms.specs.Judged.{Judged, ◌>>=◌}
use Rattle.xq_atoms.specs.Decimal.{in_millionths}
use Rattle.xq_atoms.specs.Atom.{Atomic, Integer, Decimal, Untyped, numeric}
use Rattle.xq_atoms.specs.Arithmetic.{add, sub, mul, div, idiv, modulo, neg}
use Rattle.xq_atoms.specs.Cast.{cast_integer}
use Rattle.xq_atoms.specs.Compare.{compare_value, compare_general}
use Rattle.xq_trees.specs.Tree.{Tree}
use Rattle.xq_meaning.specs.declared.operators.Operator.{Operator}
use Rattle.xq_meaning.specs.declared.operators.Operator.TheVariants as operator
use Rattle.xq_meaning.specs.Items.{Place, Item, Node, Atom, same_node, is_before, is_among, in_document_order, atomized}
use Rattle.xq_meaning.specs.Arguments.{boolean, text, as_items, as_boolean, single, effective, truth, all_nodes}
use Rattle.xq_meaning.specs.Functions.{piece}

-- an empty operand gives (); else the left one is judged, and then the right one
abbrev pub of_both : {A B : Type 0} → (List A → Judged B) → (B → B → Judged (List Item)) → List A →
    List A → Judged (List Item)
of_both judge result [] ys = Ok []
of_both judge result (x ∷ xs) [] = Ok []
of_both judge result (x ∷ xs) (y ∷ ys) = do
  a ← judge (x ∷ xs)
  b ← judge (y ∷ ys)
  result a b

-- # 3.5: arithmetic

-- exactly one value, which is a number
abbrev pub number_operand : List Atomic → Judged Atomic
number_operand as' = do
  a ← single as'
  numeric a

-- XQuery 3.1, 3.5: arithmetic of two operands
abbrev pub calculated : (Atomic → Atomic → Judged Atomic) → List Tree → List Item → List Item →
    Judged (List Item)
calculated op trees xs ys =
    of_both number_operand (λ a b. as_items (op a b)) (atomized trees xs) (atomized trees ys)

-- F&O 3.1, 4.2: what `+` and `-` give for two numbers
abbrev pub sum_of : Sign → Atomic → Atomic → Judged Atomic
sum_of Plus = add
sum_of Minus = sub

-- F&O 3.1, 4.2: what `*`, `div`, `idiv` and `mod` give for two numbers
abbrev pub product_of : ProductOperator → Atomic → Atomic → Judged Atomic
product_of Times = mul
product_of Div = div
product_of Idiv = idiv
product_of Mod = modulo

-- a plus leaves a number as it is
abbrev pub sign_of : Sign → Atomic → Judged Atomic
sign_of Plus = numeric
sign_of Minus = neg

-- the signs from the last to the first
abbrev pub with_signs : List Sign → Atomic → Judged Atomic
with_signs [] a = numeric a
with_signs (s ∷ ss) a = do
  b ← with_signs ss a
  sign_of s b

-- XQuery 3.1, 3.5: one number with signs in front of it, and () for ()
abbrev pub signed : List Sign → List Atomic → Judged (List Item)
signed signs [] = Ok []
signed signs (a ∷ as') = do
  b ← number_operand (a ∷ as')
  as_items (with_signs signs b)

-- # 3.4.1: ranges

-- an integer; any other value is refused
abbrev pub whole_number : Atomic → Judged ℤ
whole_number (Integer n) = Ok n
whole_number a = Err XPTY0004

-- an integer; an untyped value is cast to one
abbrev pub bound_of : Atomic → Judged ℤ
bound_of (Untyped t) = do
  a ← cast_integer (Untyped t)
  whole_number a
bound_of a = whole_number a

-- exactly one value, which is a bound of a range
abbrev pub one_bound : List Atomic → Judged ℤ
one_bound as' = do
  a ← single as'
  bound_of a

-- n integers one after another, from m on
abbrev pub integers_from : ℤ → ℕ → List Item
integers_from m zero = []
integers_from m (suc n) = Atom (Integer m) ∷ integers_from (m +ℤ pos 1) n

-- n integers from m on, where the test holds; else they are too many
abbrev pub integers_within : Bool → ℤ → ℕ → Judged (List Item)
integers_within true m n = Ok (integers_from m n)
integers_within false m n = Err ProfRange

-- the number of integers from the first to the last
abbrev pub how_many : ℤ → ℤ → ℕ
how_many m n = if int_lt n m then 0 else nat_abs (n -ℤ m) + 1

-- the profile's limit for the length of a range
abbrev pub most_integers : ℕ
most_integers = 1000000

-- the integers from the first to the last, at most so many
abbrev pub integers : ℤ → ℤ → Judged (List Item)
integers m n = integers_within (nat_le (how_many m n) most_integers) m (how_many m n)

-- XQuery 3.1, 3.4.1: `to`, the integers from the left operand to the right one
abbrev pub range : List Tree → List Item → List Item → Judged (List Item)
range trees xs ys = of_both one_bound integers (atomized trees xs) (atomized trees ys)

-- # 3.6: string concatenation; nothing is the empty string
abbrev pub concatenated : List Tree → List Item → List Item → Judged (List Item)
concatenated trees xs ys = do
  s ← piece (atomized trees xs)
  t ← piece (atomized trees ys)
  Ok (text (s ++ t))

-- # 3.7: comparisons

-- the comparison that a relation stands for
abbrev pub related_by : Relation → CompOp
related_by relation.Equal = comp.Eq
related_by relation.NotEqual = comp.Ne
related_by relation.Less = comp.Lt
related_by relation.LessEqual = comp.Le
related_by relation.Greater = comp.Gt
related_by relation.GreaterEqual = comp.Ge

-- 3.7.1
abbrev pub by_value : CompOp → List Atomic → List Atomic → Judged (List Item)
by_value op = of_both single (λ a b. as_boolean (compare_value op a b))

-- 3.7.2: some pair compares; the first that does, or is refused, decides. Pairs go by the left
-- value, and then by the right one

-- true decides; after false the rest does
abbrev pub or_rest : Bool → Judged Bool → Judged Bool
or_rest true rest = Ok true
or_rest false rest = rest

-- the value compares with some value of the list
abbrev pub some_with : CompOp → Atomic → List Atomic → Judged Bool
some_with op a [] = Ok false
some_with op a (b ∷ bs) = do
  answer ← compare_general op a b
  or_rest answer (some_with op a bs)

-- some value of the left list compares with some value of the right one
abbrev pub some_pair : CompOp → List Atomic → List Atomic → Judged Bool
some_pair op [] bs = Ok false
some_pair op (a ∷ as') bs = do
  answer ← some_with op a bs
  or_rest answer (some_pair op as' bs)

-- XQuery 3.1, 3.7.2: a general comparison
abbrev pub by_pairs : CompOp → List Atomic → List Atomic → Judged (List Item)
by_pairs op as' bs = as_boolean (some_pair op as' bs)

-- 3.7.3: nodes

-- exactly one item, which is a node
abbrev pub one_node : List Item → Judged Place
one_node (Node p ∷ []) = Ok p
one_node xs = Err XPTY0004

-- 3.7.3: the nodes are the same, or the first one is before or after the second one
abbrev pub stand : NodeComparison → Place → Place → Bool
stand Is p q = same_node p q
stand Precedes p q = is_before p q
stand Follows p q = is_before q p

-- XQuery 3.1, 3.7.3: a node comparison, with () where an operand is empty
abbrev pub by_nodes : NodeComparison → List Item → List Item → Judged (List Item)
by_nodes op = of_both one_node (λ p q. Ok (boolean (stand op p q)))

-- XQuery 3.1, 3.7: a comparison of two operands, by its operator
abbrev pub compared : ComparisonOperator → List Tree → List Item → List Item → Judged (List Item)
compared (comparing.Value op) trees xs ys =
    by_value (related_by op) (atomized trees xs) (atomized trees ys)
compared (comparing.General op) trees xs ys =
    by_pairs (related_by op) (atomized trees xs) (atomized trees ys)
compared (comparing.Node op) trees xs ys = by_nodes op xs ys

-- # 3.4.2: nodes put together, in document order, each once

-- nodes as items, in document order, each once
abbrev pub in_order : List Tree → List Place → List Item
in_order trees places = map Node (in_document_order trees places)

-- XQuery 3.1, 3.4.2: two operands that have to be nodes, put together
abbrev pub from_nodes : (List Place → List Place → List Place) → List Tree → List Item → List Item →
    Judged (List Item)
from_nodes result trees xs ys = do
  ps ← all_nodes XPTY0004 xs
  qs ← all_nodes XPTY0004 ys
  Ok (in_order trees (result ps qs))

-- the left nodes that are among the right ones, or that are not
abbrev pub set_of : SetOperator → List Place → List Place → List Place
set_of Intersect ps qs = filter (is_among qs) ps
set_of Except ps qs = filter (λ p. not (is_among qs p)) ps

-- # The operators

-- what an operator gives from the values of its two operands
abbrev pub operated : Operator → List Tree → List Item → List Item → Judged (List Item)
operated (operator.Sum op) = calculated (sum_of op)
operated (operator.Product op) = calculated (product_of op)
operated operator.Range = range
operated operator.Concat = concatenated
operated (operator.Comparison op) = compared op
operated operator.Union = from_nodes (λ ps qs. ps ++ qs)
operated (operator.SetOperation op) = from_nodes (set_of op)

-- # 3.3.1.1: what a path gives from what its last step gave for each item: nodes in document order,
-- or atomic values

-- no item is a node
abbrev pub are_atoms : List Item → Bool
are_atoms [] = true
are_atoms (Node p ∷ xs) = false
are_atoms (Atom a ∷ xs) = are_atoms xs

-- the items where the test holds, else the refusal of a mix with nodes
abbrev pub all_atoms : Bool → List Item → Judged (List Item)
all_atoms true xs = Ok xs
all_atoms false xs = Err XPTY0018

-- the nodes in document order; where they are refused, the items if all are atomic values
abbrev pub nodes_or_atoms : List Tree → List Item → Judged (List Place) → Judged (List Item)
nodes_or_atoms trees xs (Ok places) = Ok (in_order trees places)
nodes_or_atoms trees xs (Err code) = all_atoms (are_atoms xs) xs

-- XQuery 3.1, 3.3.1.1: nodes in document order, or atomic values as they are; no mix of both
abbrev pub gathered : List Tree → List Item → Judged (List Item)
gathered trees xs = nodes_or_atoms trees xs (all_nodes XPTY0018 xs)

-- # 3.3.3: a predicate's value

-- a number keeps the item at its position
abbrev pub is_kept : ℕ → Atomic → Bool
is_kept position (Integer n) = int_eq n (pos position)
is_kept position (Decimal m) = int_eq m (in_millionths (pos position))
is_kept position a = truth a

-- XQuery 3.1, 3.3.3: a predicate with that value keeps the item at that position
abbrev pub keeps : ℕ → List Item → Judged Bool
keeps position (Atom a ∷ []) = Ok (is_kept position a)
keeps position xs = effective xs
