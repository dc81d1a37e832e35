-- Short words to write worked rows with: each form of expression, as its meaning from those of its
-- parts.
use Prim.Native.String.{String}
use Rattle.std.specs.Prelude.{ℕ, pos, List, [], ◌∷◌, Option, Some, None, codes, encode_utf8_all}
use Rattle.xq_expressions.specs.declared.names.QName.{QName}
use Rattle.xq_expressions.specs.declared.operators.AllowingEmpty.{AllowingEmpty}
use Rattle.xq_expressions.specs.declared.operators.AllowingEmpty.TheVariants as allowing
use Rattle.xq_expressions.specs.declared.operators.Sign.{Sign}
use Rattle.xq_expressions.specs.declared.operators.Sign.TheVariants.{Plus, Minus}
use Rattle.xq_expressions.specs.declared.operators.ProductOperator.{ProductOperator}
use Rattle.xq_expressions.specs.declared.operators.ProductOperator.TheVariants.{Times, Div, Idiv, Mod}
use Rattle.xq_expressions.specs.declared.operators.SetOperator.{SetOperator}
use Rattle.xq_expressions.specs.declared.operators.SetOperator.TheVariants.{Intersect, Except}
use Rattle.xq_expressions.specs.declared.operators.ComparisonOperator.{ComparisonOperator}
use Rattle.xq_expressions.specs.declared.operators.Quantifier.{Quantifier}
use Rattle.xq_expressions.specs.declared.operators.NamedNode.{NamedNode}
use Rattle.xq_expressions.specs.declared.operators.NamedNode.TheVariants as kind
use Rattle.xq_expressions.specs.declared.operators.UnnamedNode.TheVariants as unnamed
use Rattle.xq_expressions.specs.declared.operators.OrderModifier.{OrderModifier}
use Rattle.xq_expressions.specs.declared.operators.Direction.TheVariants as direction
use Rattle.xq_expressions.specs.declared.operators.EmptyOrder.TheVariants as empty
use Rattle.xq_expressions.specs.declared.operators.PathStart.TheVariants as start
use Rattle.xq_expressions.specs.declared.operators.Separator.{Separator}
use Rattle.xq_expressions.specs.declared.operators.Separator.TheVariants.{Slash, DoubleSlash}
use Rattle.xq_expressions.specs.declared.operators.AxisName.{AxisName}
use Rattle.xq_expressions.specs.declared.operators.AxisStep.TheVariants as step
use Rattle.xq_expressions.specs.declared.operators.NodeTest.{NodeTest}
use Rattle.xq_expressions.specs.declared.operators.NodeTest.TheVariants as written
use Rattle.xq_expressions.specs.declared.expressions.Clause.TheOpen.{Clause-F, ConstructorName-F, Expr-F, GroupSpec-F, Step-F}
use Rattle.xq_atoms.specs.Text.{Text}
use Rattle.xq_meaning.specs.Meaning.{Meaning, ClauseMeaning, GroupMeaning, form_meaning, clause_meaning, group_meaning, name_meaning, step_meaning}

-- a text with characters beyond ASCII
abbrev pub utf8 : String → Text
utf8 s = encode_utf8_all (codes s)

abbrev pub bare : String → QName
bare s = record { prefix = None; local = codes s }

abbrev pub prefixed : String → String → QName
prefixed p s = record { prefix = Some (codes p); local = codes s }

-- # Primary expressions

abbrev pub num : ℕ → Meaning
num n = form_meaning (Expr-F.Int (pos n))

-- in millionths
abbrev pub dec : ℕ → Meaning
dec m = form_meaning (Expr-F.Dec (pos m))

abbrev pub txt : String → Meaning
txt s = form_meaning (Expr-F.Str (codes s))

abbrev pub txt8 : String → Meaning
txt8 s = form_meaning (Expr-F.Str (utf8 s))

abbrev pub var : String → Meaning
var s = form_meaning (Expr-F.«Expr::Variable» (bare s))

abbrev pub dot : Meaning
dot = form_meaning Expr-F.ContextItem

abbrev pub seq : List Meaning → Meaning
seq parts = form_meaning (Expr-F.Sequence parts)

abbrev pub none : Meaning
none = seq []

abbrev pub call : String → List Meaning → Meaning
call s parts = form_meaning (Expr-F.Call (bare s) parts)

abbrev pub call_by : QName → List Meaning → Meaning
call_by q parts = form_meaning (Expr-F.Call q parts)

-- # Arrows and maps

-- a call after an arrow
abbrev pub onto : String → List Meaning → QName × List Meaning
onto s parts = (bare s, parts)

abbrev pub onto_by : QName → List Meaning → QName × List Meaning
onto_by q parts = (q, parts)

abbrev pub arrow : Meaning → List (QName × List Meaning) → Meaning
arrow first calls = form_meaning (Expr-F.Arrow first calls)

abbrev pub mapped : Meaning → List Meaning → Meaning
mapped first parts = form_meaning (Expr-F.Map first parts)

-- # Operators

-- an operator and its right operand
abbrev pub plus : Meaning → Sign × Meaning
plus part = (Plus, part)

abbrev pub minus : Meaning → Sign × Meaning
minus part = (Minus, part)

abbrev pub times : Meaning → ProductOperator × Meaning
times part = (Times, part)

abbrev pub div_by : Meaning → ProductOperator × Meaning
div_by part = (Div, part)

abbrev pub idiv_by : Meaning → ProductOperator × Meaning
idiv_by part = (Idiv, part)

abbrev pub mod_by : Meaning → ProductOperator × Meaning
mod_by part = (Mod, part)

abbrev pub intersect : Meaning → SetOperator × Meaning
intersect part = (Intersect, part)

abbrev pub without : Meaning → SetOperator × Meaning
without part = (Except, part)

abbrev pub sum : Meaning → List (Sign × Meaning) → Meaning
sum first rest = form_meaning (Expr-F.Sum first rest)

abbrev pub product : Meaning → List (ProductOperator × Meaning) → Meaning
product first rest = form_meaning (Expr-F.Product first rest)

abbrev pub unary : List Sign → Meaning → Meaning
unary signs part = form_meaning (Expr-F.Unary signs part)

abbrev pub to : Meaning → Meaning → Meaning
to left right = form_meaning (Expr-F.Range left right)

abbrev pub concat : List Meaning → Meaning
concat parts = form_meaning (Expr-F.Concat parts)

abbrev pub compare : ComparisonOperator → Meaning → Meaning → Meaning
compare op left right = form_meaning (Expr-F.Comparison left op right)

abbrev pub union : List Meaning → Meaning
union parts = form_meaning (Expr-F.Union parts)

abbrev pub sets : Meaning → List (SetOperator × Meaning) → Meaning
sets first rest = form_meaning (Expr-F.SetOperation first rest)

abbrev pub any_of : List Meaning → Meaning
any_of parts = form_meaning (Expr-F.Or parts)

abbrev pub all_of : List Meaning → Meaning
all_of parts = form_meaning (Expr-F.And parts)

abbrev pub iff : Meaning → Meaning → Meaning → Meaning
iff part yes' no' = form_meaning (Expr-F.If part yes' no')

abbrev pub quantified : Quantifier → List (QName × Meaning) → Meaning → Meaning
quantified which bindings part = form_meaning (Expr-F.Quantified which bindings part)

-- # Paths and steps

-- a step after / and after //
abbrev pub slash : Meaning → Separator × Meaning
slash part = (Slash, part)

abbrev pub below : Meaning → Separator × Meaning
below part = (DoubleSlash, part)

abbrev pub root : Meaning
root = form_meaning Expr-F.Root

abbrev pub path : Meaning → List (Separator × Meaning) → Meaning
path first steps = form_meaning (Expr-F.Path start.Relative first steps)

abbrev pub path_from_root : Meaning → List (Separator × Meaning) → Meaning
path_from_root first steps = form_meaning (Expr-F.Path start.Root first steps)

abbrev pub path_below_root : Meaning → List (Separator × Meaning) → Meaning
path_below_root first steps = form_meaning (Expr-F.Path start.RootAndBelow first steps)

abbrev pub primary : Meaning → Meaning
primary part = step_meaning (Step-F.Primary part [])

abbrev pub filtered : Meaning → List Meaning → Meaning
filtered part predicates = step_meaning (Step-F.Primary part predicates)

abbrev pub named : String → NodeTest
named s = written.Named (bare s)

abbrev pub along : AxisName → NodeTest → List Meaning → Meaning
along name test predicates = step_meaning (Step-F.Axis (step.Along name test) predicates)

abbrev pub bare_step : NodeTest → List Meaning → Meaning
bare_step test predicates = step_meaning (Step-F.Axis (step.Abbreviated test) predicates)

abbrev pub child : String → Meaning
child s = bare_step (named s) []

abbrev pub at_test : NodeTest → List Meaning → Meaning
at_test test predicates = step_meaning (Step-F.Axis (step.Attribute test) predicates)

abbrev pub at : String → Meaning
at s = at_test (named s) []

abbrev pub up : List Meaning → Meaning
up predicates = step_meaning (Step-F.Axis step.Parent predicates)

-- # Constructors: by a name that is written out, or by an expression

abbrev pub written_node : NamedNode → String → Meaning → Meaning
written_node which s part =
    form_meaning (Expr-F.Named which (name_meaning (ConstructorName-F.Literal (bare s))) part)

abbrev pub computed_node : NamedNode → Meaning → Meaning → Meaning
computed_node which name part =
    form_meaning (Expr-F.Named which (name_meaning (ConstructorName-F.Computed name)) part)

abbrev pub element : String → Meaning → Meaning
element = written_node kind.Element

abbrev pub element_by : Meaning → Meaning → Meaning
element_by = computed_node kind.Element

abbrev pub attribute : String → Meaning → Meaning
attribute = written_node kind.Attribute

abbrev pub attribute_by : Meaning → Meaning → Meaning
attribute_by = computed_node kind.Attribute

abbrev pub instruction : String → Meaning → Meaning
instruction = written_node kind.ProcessingInstruction

abbrev pub instruction_by : Meaning → Meaning → Meaning
instruction_by = computed_node kind.ProcessingInstruction

abbrev pub document : Meaning → Meaning
document part = form_meaning (Expr-F.Unnamed unnamed.Document part)

abbrev pub text : Meaning → Meaning
text part = form_meaning (Expr-F.Unnamed unnamed.Text part)

abbrev pub comment : Meaning → Meaning
comment part = form_meaning (Expr-F.Unnamed unnamed.Comment part)

-- # FLWOR

abbrev pub flwor : List ClauseMeaning → Meaning → Meaning
flwor clauses part = form_meaning (Expr-F.Flwor clauses part)

-- a variable and its value, or what it ranges over
abbrev pub be : String → Meaning → QName × Meaning
be s part = (bare s, part)

abbrev pub each : String → Meaning → QName × AllowingEmpty × Option QName × Meaning
each s part = (bare s, allowing.No, None, part)

abbrev pub each_at : String → String → Meaning → QName × AllowingEmpty × Option QName × Meaning
each_at s p part = (bare s, allowing.No, Some (bare p), part)

-- with `allowing empty`
abbrev pub each_or_none : String → Meaning → QName × AllowingEmpty × Option QName × Meaning
each_or_none s part = (bare s, allowing.Yes, None, part)

abbrev pub each_or_none_at : String → String → Meaning →
    QName × AllowingEmpty × Option QName × Meaning
each_or_none_at s p part = (bare s, allowing.Yes, Some (bare p), part)

abbrev pub for_all : List (QName × AllowingEmpty × Option QName × Meaning) → ClauseMeaning
for_all bindings = clause_meaning (Clause-F.For bindings)

abbrev pub for_in : String → Meaning → ClauseMeaning
for_in s part = for_all (each s part ∷ [])

abbrev pub let_all : List (QName × Meaning) → ClauseMeaning
let_all bindings = clause_meaning (Clause-F.Let bindings)

abbrev pub let_be : String → Meaning → ClauseMeaning
let_be s part = let_all (be s part ∷ [])

abbrev pub count_as : String → ClauseMeaning
count_as s = clause_meaning (Clause-F.Count (bare s))

abbrev pub where_is : Meaning → ClauseMeaning
where_is part = clause_meaning (Clause-F.Filter part)

abbrev pub grouping : String → GroupMeaning
grouping s = group_meaning (GroupSpec-F.«GroupSpec::Variable» (bare s))

abbrev pub assigned : String → Meaning → GroupMeaning
assigned s part = group_meaning (GroupSpec-F.Assigned (bare s) part)

abbrev pub group_by : List GroupMeaning → ClauseMeaning
group_by specs = clause_meaning (Clause-F.Group specs)

abbrev pub by : Meaning → OrderModifier → Meaning × OrderModifier
by part modifier = (part, modifier)

abbrev pub order_by : List (Meaning × OrderModifier) → ClauseMeaning
order_by specs = clause_meaning (Clause-F.Order specs)

abbrev pub ascending : OrderModifier
ascending = record { direction = direction.Ascending; empty = empty.Least }

abbrev pub descending : OrderModifier
descending = record { direction = direction.Descending; empty = empty.Least }

abbrev pub empty_greatest : OrderModifier
empty_greatest = record { direction = direction.Ascending; empty = empty.Greatest }

abbrev pub descending_greatest : OrderModifier
descending_greatest = record { direction = direction.Descending; empty = empty.Greatest }
