-- What the functions of one argument give that atomize it, from its atomic values.
use Rattle.std.specs.Prelude.{List, [], ◌∷◌, ◌++◌, map, flat_map, Ok, Err}
use Rattle.xq_atoms.specs.declared.refusals.Code.TheVariants.{XPST0017, XPTY0004}
use Rattle.xq_atoms.specs.Judged.{Judged, ◌>>=◌}
use Rattle.xq_atoms.specs.Atom.{Atomic, Untyped}
use Rattle.xq_atoms.specs.Arithmetic as Arithmetic
use Rattle.xq_atoms.specs.Cast.{cast_integer, cast_decimal, cast_boolean, text_of}
use Rattle.xq_expressions.specs.declared.signatures.Function.{Function}
use Rattle.xq_expressions.specs.declared.signatures.Function.TheVariants as f
use Rattle.xq_meaning.specs.Texts.{normalized, character_count}
use Rattle.xq_meaning.specs.Items.{Item, Atom}
use Rattle.xq_meaning.specs.Arguments.{atomic, whole, text, as_items, as_boolean, single, on_optional, optional_text}
use Rattle.xq_meaning.specs.Functions.{distinct_values, sum, extreme, is_less, is_greater, piece, of_two, of_three, of_many}
use Rattle.xq_meaning.specs.Operators.{number_operand, sum_of, product_of, one_bound, integers, related_by, by_pairs}
use Rattle.xq_meaning.specs.declared.operators.Operator.{Operator}
use Rattle.xq_meaning.specs.declared.operators.Operator.TheVariants as operator
use Rattle.xq_expressions.specs.declared.operators.ComparisonOperator.TheVariants as comparing
use Rattle.xq_atoms.specs.declared.comparisons.CompOp.{CompOp}
use Rattle.xq_atoms.specs.Compare.{compare_value}

-- of at most one value, the one that the function makes of it
abbrev pub of_atom : Function → Atomic → Judged (List Item)
of_atom f.Abs a = as_items (Arithmetic.abs a)
of_atom f.Floor a = as_items (Arithmetic.floor a)
of_atom f.Ceiling a = as_items (Arithmetic.ceiling a)
of_atom f.Round a = as_items (Arithmetic.round a)
of_atom f.ToInteger a = as_items (cast_integer a)
of_atom f.ToDecimal a = as_items (cast_decimal a)
of_atom f.ToBoolean a = as_items (cast_boolean a)
of_atom f.ToString a = Ok (text (text_of a))
of_atom f.ToUntyped a = Ok (atomic (Untyped (text_of a)))
of_atom function a = Err XPST0017

-- nothing for nothing
abbrev pub of_optional : Function → List Atomic → Judged (List Item)
of_optional function = on_optional (of_atom function)

abbrev pub string_length : List Atomic → Judged (List Item)
string_length as' = do t ← optional_text as'; Ok (whole (character_count t))

abbrev pub normalize_space : List Atomic → Judged (List Item)
normalize_space as' = do t ← optional_text as'; Ok (text (normalized t))

abbrev pub of_atoms : Function → List Atomic → Judged (List Item)
of_atoms f.StringLength as' = string_length as'
of_atoms f.NormalizeSpace as' = normalize_space as'
of_atoms f.StringJoin as' = Ok (text (flat_map text_of as'))
of_atoms f.DistinctValues as' = Ok (map Atom (distinct_values as'))
of_atoms f.Sum as' = sum as'
of_atoms f.Min as' = extreme is_less as'
of_atoms f.Max as' = extreme is_greater as'
of_atoms function as' = of_optional function as'

-- # Operators on the atomic values of their operands

-- both operands are judged, the left one first
abbrev pub on_both : {B : Type 0} → (List Atomic → Judged B) → (B → B → Judged (List Item))
    → List Atomic → List Atomic → Judged (List Item)
on_both judge result as' bs = do
  a ← judge as'
  b ← judge bs
  result a b

abbrev pub on_numbers : (Atomic → Atomic → Judged Atomic) → List Atomic → List Atomic
    → Judged (List Item)
on_numbers op = on_both number_operand (λ a b. as_items (op a b))

abbrev pub values_compared : CompOp → List Atomic → List Atomic → Judged (List Item)
values_compared op = on_both single (λ a b. as_boolean (compare_value op a b))

abbrev pub texts_concatenated : List Atomic → List Atomic → Judged (List Item)
texts_concatenated as' bs = do
  s ← piece as'
  t ← piece bs
  Ok (text (s ++ t))

abbrev pub three_concatenated : List Atomic → List Atomic → List Atomic → Judged (List Item)
three_concatenated as' bs cs = do
  s ← piece as'
  t ← piece bs
  u ← piece cs
  Ok (text ((s ++ t) ++ u))

-- what is done with operands that are both there
abbrev pub both_operated : Operator → List Atomic → List Atomic → Judged (List Item)
both_operated (operator.Sum op) = on_numbers (sum_of op)
both_operated (operator.Product op) = on_numbers (product_of op)
both_operated operator.Range = on_both one_bound integers
both_operated op = λ as' bs. Err XPTY0004

-- an empty operand gives ()
abbrev pub unless_empty : List Atomic → List Atomic → Judged (List Item) → Judged (List Item)
unless_empty [] bs result = Ok []
unless_empty (a ∷ as') [] result = Ok []
unless_empty (a ∷ as') (b ∷ bs) result = result

abbrev pub atoms_operated : Operator → List Atomic → List Atomic → Judged (List Item)
atoms_operated operator.Concat as' bs = texts_concatenated as' bs
atoms_operated (operator.Comparison (comparing.General op)) as' bs = by_pairs (related_by op) as' bs
atoms_operated (operator.Comparison (comparing.Value op)) as' bs = unless_empty as' bs
    (values_compared (related_by op) as' bs)
atoms_operated (operator.Comparison (comparing.Node op)) as' bs = Err XPTY0004
atoms_operated op as' bs = unless_empty as' bs (both_operated op as' bs)

-- # Calls with two arguments or more

abbrev pub of_lists : Function → List (List Atomic) → Judged (List Item)
of_lists function (as' ∷ bs ∷ []) = of_two function as' bs
of_lists function (as' ∷ bs ∷ cs ∷ []) = of_three function as' bs cs
of_lists function lists = of_many function lists
