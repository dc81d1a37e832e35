-- The functions that a query may call (F&O 3.1; XQuery 3.1, 3.18.5): one table of names and numbers
-- of arguments.
use Rattle.std.specs.Prelude.{ℕ, List, [], ◌∷◌, Bool, true, ◌&&◌, nat_le, Option, Some, None, codes, if◌then◌else◌}
use Rattle.std.specs.List.{find}
use Rattle.xq_atoms.specs.Text.{Text, text_eq}
use Rattle.xq_expressions.specs.declared.signatures.Arity.{Arity}
use Rattle.xq_expressions.specs.declared.signatures.Function.{Function}
use Rattle.xq_expressions.specs.declared.signatures.Function.TheVariants as f

-- ---- how many arguments

-- from the first number of arguments to the second
abbrev pub between : ℕ → ℕ → Arity
between least greatest = record { least = least; greatest = Some greatest }

-- so many arguments, no more and no fewer
abbrev pub exactly : ℕ → Arity
exactly count = between count count

-- so many arguments or more
abbrev pub at_least : ℕ → Arity
at_least least = record { least = least; greatest = None }

-- the number isn't above the greatest one, if there is a greatest
abbrev pub is_within : ℕ → Option ℕ → Bool
is_within count None = true
is_within count (Some greatest) = nat_le count greatest

-- whether a call may have so many arguments
abbrev pub admits : Arity → ℕ → Bool
admits arity count = nat_le arity.least count && is_within count arity.greatest

-- ---- the table

-- a function's local name, and how many arguments it takes
abbrev pub Signature : Type 0
Signature = Text × Arity

-- the line of the table for each function
abbrev pub signature : Function → Signature
signature f.Doc = (codes "doc", exactly 1)
signature f.DocAvailable = (codes "doc-available", exactly 1)
signature f.Collection = (codes "collection", exactly 0)
signature f.Root = (codes "root", between 0 1)
signature f.Name = (codes "name", between 0 1)
signature f.LocalName = (codes "local-name", between 0 1)
signature f.String = (codes "string", between 0 1)
signature f.Data = (codes "data", between 0 1)
signature f.StringLength = (codes "string-length", between 0 1)
signature f.NormalizeSpace = (codes "normalize-space", between 0 1)
signature f.Concat = (codes "concat", at_least 2)
signature f.StringJoin = (codes "string-join", between 1 2)
signature f.Contains = (codes "contains", exactly 2)
signature f.StartsWith = (codes "starts-with", exactly 2)
signature f.EndsWith = (codes "ends-with", exactly 2)
signature f.Substring = (codes "substring", between 2 3)
signature f.SubstringBefore = (codes "substring-before", exactly 2)
signature f.SubstringAfter = (codes "substring-after", exactly 2)
signature f.Count = (codes "count", exactly 1)
signature f.Empty = (codes "empty", exactly 1)
signature f.Exists = (codes "exists", exactly 1)
signature f.Head = (codes "head", exactly 1)
signature f.Tail = (codes "tail", exactly 1)
signature f.Reverse = (codes "reverse", exactly 1)
signature f.DistinctValues = (codes "distinct-values", exactly 1)
signature f.ZeroOrOne = (codes "zero-or-one", exactly 1)
signature f.OneOrMore = (codes "one-or-more", exactly 1)
signature f.ExactlyOne = (codes "exactly-one", exactly 1)
signature f.Not = (codes "not", exactly 1)
signature f.Boolean = (codes "boolean", exactly 1)
signature f.True = (codes "true", exactly 0)
signature f.False = (codes "false", exactly 0)
signature f.Position = (codes "position", exactly 0)
signature f.Last = (codes "last", exactly 0)
signature f.Sum = (codes "sum", exactly 1)
signature f.Min = (codes "min", exactly 1)
signature f.Max = (codes "max", exactly 1)
signature f.Abs = (codes "abs", exactly 1)
signature f.Floor = (codes "floor", exactly 1)
signature f.Ceiling = (codes "ceiling", exactly 1)
signature f.Round = (codes "round", exactly 1)
signature f.ToInteger = (codes "integer", exactly 1)
signature f.ToDecimal = (codes "decimal", exactly 1)
signature f.ToString = (codes "string", exactly 1)
signature f.ToBoolean = (codes "boolean", exactly 1)
signature f.ToUntyped = (codes "untypedAtomic", exactly 1)

-- a function's local name
abbrev pub name : Function → Text
name function = (signature function).0

-- how many arguments a function takes
abbrev pub arity : Function → Arity
arity function = (signature function).1

-- ---- the functions by their names

-- those of the library, called by a bare name or after `fn:`
abbrev pub library : List Function
library =
    f.Doc ∷ f.DocAvailable ∷ f.Collection ∷ f.Root ∷ f.Name ∷ f.LocalName ∷ f.String ∷ f.Data
    ∷ f.StringLength ∷ f.NormalizeSpace ∷ f.Concat ∷
    f.StringJoin ∷ f.Contains ∷ f.StartsWith ∷ f.EndsWith ∷ f.Substring ∷ f.SubstringBefore
    ∷ f.SubstringAfter ∷ f.Count ∷ f.Empty ∷ f.Exists ∷ f.Head
    ∷ f.Tail ∷ f.Reverse ∷ f.DistinctValues ∷ f.ZeroOrOne ∷ f.OneOrMore ∷ f.ExactlyOne ∷ f.Not
    ∷ f.Boolean ∷ f.True ∷ f.False ∷ f.Position ∷ f.Last ∷
    f.Sum ∷ f.Min ∷ f.Max ∷ f.Abs ∷ f.Floor ∷ f.Ceiling ∷ f.Round ∷ []

-- those that construct a value of a type, called after `xs:`
abbrev pub constructors : List Function
constructors = f.ToInteger ∷ f.ToDecimal ∷ f.ToString ∷ f.ToBoolean ∷ f.ToUntyped ∷ []

-- the first of these functions that has this local name, if there is one
abbrev pub named : List Function → Text → Option Function
named functions local = find (λ function. text_eq (name function) local) functions

-- the function of the library that has this local name, if there is one
abbrev pub in_library : Text → Option Function
in_library = named library

-- the constructor of the type that has this local name, if there is one
abbrev pub of_type : Text → Option Function
of_type = named constructors

-- the function of that name: none where the prefix is neither `fn` nor `xs`
abbrev pub function_named : Option Text → Text → Option Function
function_named None local = in_library local
function_named (Some prefix) local =
    if text_eq prefix (codes "fn") then in_library local
    else (if text_eq prefix (codes "xs") then of_type local else None)
