-- What functions and operators look at: the items themselves, or their atomic values.
use Rattle.std.specs.Prelude.{Bool, true, false}
use Rattle.xq_expressions.specs.declared.signatures.Function.{Function}
use Rattle.xq_expressions.specs.declared.signatures.Function.TheVariants as f
use Rattle.xq_meaning.specs.declared.operators.Operator.{Operator}
use Rattle.xq_meaning.specs.declared.operators.Operator.TheVariants as operator
use Rattle.xq_expressions.specs.declared.operators.ComparisonOperator.TheVariants as comparing
use Rattle.xq_functions.specs.declared.kinds.Argument.{Argument}
use Rattle.xq_functions.specs.declared.kinds.Argument.TheVariants.{Missing, Items, Atoms, Nodes, Address}

-- of a call with one argument
abbrev pub argument_of : Function → Argument
argument_of f.Doc = Address
argument_of f.DocAvailable = Address
argument_of f.Root = Nodes
argument_of f.Name = Nodes
argument_of f.LocalName = Nodes
argument_of f.String = Nodes
argument_of f.Data = Nodes
argument_of f.Count = Items
argument_of f.Empty = Items
argument_of f.Exists = Items
argument_of f.Head = Items
argument_of f.Tail = Items
argument_of f.Reverse = Items
argument_of f.ZeroOrOne = Items
argument_of f.OneOrMore = Items
argument_of f.ExactlyOne = Items
argument_of f.Not = Items
argument_of f.Boolean = Items
argument_of f.StringLength = Atoms
argument_of f.NormalizeSpace = Atoms
argument_of f.StringJoin = Atoms
argument_of f.DistinctValues = Atoms
argument_of f.Sum = Atoms
argument_of f.Min = Atoms
argument_of f.Max = Atoms
argument_of f.Abs = Atoms
argument_of f.Floor = Atoms
argument_of f.Ceiling = Atoms
argument_of f.Round = Atoms
argument_of f.ToInteger = Atoms
argument_of f.ToDecimal = Atoms
argument_of f.ToString = Atoms
argument_of f.ToBoolean = Atoms
argument_of f.ToUntyped = Atoms
argument_of function = Missing

-- whether the operator atomizes its operands
abbrev pub is_on_atoms : Operator → Bool
is_on_atoms (operator.Comparison (comparing.Node op)) = false
is_on_atoms operator.Union = false
is_on_atoms (operator.SetOperation op) = false
is_on_atoms op = true
