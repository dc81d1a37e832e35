-- The grammar: which expression tokens derive (XQuery 3.1, appendix A.1, in this profile). Each
-- production stands over what derives a single expression that nests deeper. They stand in the
-- order of the table of productions read from its end, each after those that it names. What stands
-- before ⟨$⟩ says what a phrase stands for: a level without an operator is its operand. Sections
-- are those of XQuery 3.1.
use Rattle.std.specs.Prelude.{◌≡◌, ℕ, zero, suc, List, [], ◌∷◌, false, Option, Some, None, ℤ}
use Rattle.xq_lexer.specs.Lexeme.{name, prefixed, int, dec, str, symbol}
use Rattle.xq_lexer.specs.declared.tokens.Symbol.TheVariants as s
use Rattle.xq_expressions.specs.declared.names.QName.{QName}
use Rattle.xq_expressions.specs.declared.operators.Quantifier.{Quantifier}
use Rattle.xq_expressions.specs.declared.operators.Quantifier.TheVariants as quantifier
use Rattle.xq_expressions.specs.declared.operators.Relation.TheVariants as relation
use Rattle.xq_expressions.specs.declared.operators.NodeComparison.TheVariants as nodes
use Rattle.xq_expressions.specs.declared.operators.ComparisonOperator.{ComparisonOperator}
use Rattle.xq_expressions.specs.declared.operators.ComparisonOperator.TheVariants as comparison
use Rattle.xq_expressions.specs.declared.operators.Sign.{Sign}
use Rattle.xq_expressions.specs.declared.operators.Sign.TheVariants as sign
use Rattle.xq_expressions.specs.declared.operators.ProductOperator.{ProductOperator}
use Rattle.xq_expressions.specs.declared.operators.ProductOperator.TheVariants as product
use Rattle.xq_expressions.specs.declared.operators.SetOperator.{SetOperator}
use Rattle.xq_expressions.specs.declared.operators.SetOperator.TheVariants as set
use Rattle.xq_expressions.specs.declared.operators.PathStart.{PathStart}
use Rattle.xq_expressions.specs.declared.operators.PathStart.TheVariants as start
use Rattle.xq_expressions.specs.declared.operators.Separator.{Separator}
use Rattle.xq_expressions.specs.declared.operators.Separator.TheVariants as separator
use Rattle.xq_expressions.specs.declared.operators.AxisName.{AxisName}
use Rattle.xq_expressions.specs.declared.operators.AxisName.TheVariants as axis
use Rattle.xq_expressions.specs.declared.operators.NodeTest.{NodeTest}
use Rattle.xq_expressions.specs.declared.operators.NodeTest.TheVariants as test
use Rattle.xq_expressions.specs.declared.operators.AxisStep.{AxisStep}
use Rattle.xq_expressions.specs.declared.operators.AxisStep.TheVariants as along
use Rattle.xq_expressions.specs.declared.operators.NamedNode.{NamedNode}
use Rattle.xq_expressions.specs.declared.operators.NamedNode.TheVariants as named
use Rattle.xq_expressions.specs.declared.operators.UnnamedNode.{UnnamedNode}
use Rattle.xq_expressions.specs.declared.operators.UnnamedNode.TheVariants as unnamed
use Rattle.xq_expressions.specs.declared.operators.Direction.{Direction}
use Rattle.xq_expressions.specs.declared.operators.Direction.TheVariants as direction
use Rattle.xq_expressions.specs.declared.operators.AllowingEmpty.{AllowingEmpty}
use Rattle.xq_expressions.specs.declared.operators.AllowingEmpty.TheVariants as allowing
use Rattle.xq_expressions.specs.declared.operators.EmptyOrder.{EmptyOrder}
use Rattle.xq_expressions.specs.declared.operators.EmptyOrder.TheVariants as empty_order
use Rattle.xq_expressions.specs.declared.operators.OrderModifier.{OrderModifier}
use Rattle.xq_expressions.specs.declared.expressions.Expr.{Expr}
use Rattle.xq_expressions.specs.declared.expressions.Expr.TheVariants as e
use Rattle.xq_expressions.specs.declared.expressions.Clause.{Clause}
use Rattle.xq_expressions.specs.declared.expressions.Clause.TheVariants as clause
use Rattle.xq_expressions.specs.declared.expressions.Clause.TheOpen.{Step-F}
use Rattle.xq_expressions.specs.declared.expressions.ConstructorName.{ConstructorName}
use Rattle.xq_expressions.specs.declared.expressions.ConstructorName.TheVariants as constructor_name
use Rattle.xq_expressions.specs.declared.expressions.GroupSpec.{GroupSpec}
use Rattle.xq_expressions.specs.declared.expressions.GroupSpec.TheVariants as group
use Rattle.xq_expressions.specs.declared.expressions.Step.{Step, out-Step}
use Rattle.xq_expressions.specs.declared.expressions.Step.TheVariants as step
use Rattle.xq_parser.specs.Look.{Tokens, Table, lookup, word, begins_step}
use Rattle.xq_parser.specs.Rel.{Rel, empty, Is, OneOf, ◌&◌, ◌▹◌, ◌◃◌, ◌⟨$⟩◌, ◌∣◌, Maybe, Many}

-- ---- what a phrase stands for

-- a name without a prefix
abbrev pub unprefixed : List ℕ → QName
unprefixed n = record { prefix = None; local = n }

-- a name with one
abbrev pub with_prefix : List ℕ → List ℕ → QName
with_prefix p n = record { prefix = Some p; local = n }

-- the first of a list and the others
abbrev pub listed : {A : Type 0} → A × List A → List A
listed (first, more) = first ∷ more

-- operands with one operator between them, if there are two and more
abbrev pub several : (List Expr → Expr) → Expr × List Expr → Expr
several operation (first, []) = first
several operation (first, second ∷ more) = operation (first ∷ second ∷ more)

-- a first operand, and what follows it, if anything does
abbrev pub chain : {A : Type 0} → (Expr → List A → Expr) → Expr × List A → Expr
chain operation (first, []) = first
chain operation (first, second ∷ more) = operation first (second ∷ more)

-- a comparison, or its only operand (section 3.7)
abbrev pub compared : Expr × Option (ComparisonOperator × Expr) → Expr
compared (x, None) = x
compared (x, Some (operator, y)) = e.Comparison x operator y

-- a range, or its only operand (section 3.4.1)
abbrev pub ranged : Expr × Option Expr → Expr
ranged (x, None) = x
ranged (x, Some y) = e.Range x y

-- signs, the outermost first, before an operand (section 3.5)
abbrev pub signed : List Sign × Expr → Expr
signed ([], operand) = operand
signed (outer ∷ inner, operand) = e.Unary (outer ∷ inner) operand

-- a binding of `for`, whether it allows empty, and its positional variable (section 3.12.2)
abbrev pub for_binding : QName × (AllowingEmpty × (Option QName × Expr)) →
    QName × AllowingEmpty × Option QName × Expr
for_binding (variable, (empty_too, (position, x))) = (variable, empty_too, position, x)

-- a grouping variable, with a value or without (section 3.12.7)
abbrev pub group_spec : QName × Option Expr → GroupSpec
group_spec (variable, None) = group.Variable variable
group_spec (variable, Some x) = group.Assigned variable x

-- a key of an order (section 3.12.8)
abbrev pub order_spec : Expr × (Direction × EmptyOrder) → Expr × OrderModifier
order_spec (x, (d, place)) = (x, record { direction = d; empty = place })

-- the first clause, the others and what is returned (section 3.12)
abbrev pub flwor : Clause × (List Clause × Expr) → Expr
flwor (first, (more, x)) = e.Flwor (first ∷ more) x

-- which tuples, the bindings and what they satisfy (section 3.16)
abbrev pub quantified : Quantifier × (List (QName × Expr) × Expr) → Expr
quantified (q, (bindings, x)) = e.Quantified q bindings x

-- the test and the two branches (section 3.14)
abbrev pub conditional : Expr × (Expr × Expr) → Expr
conditional (test, (yes_branch, no_branch)) = e.If test yes_branch no_branch

-- a path from a start that isn't its first step
abbrev pub rooted : PathStart → Step × List (Separator × Step) → Expr
rooted from (first, more) = e.Path from first more

abbrev Layer : Type 0
Layer = Step-F Clause ConstructorName Expr GroupSpec Step

abbrev relative_by : Layer → Step → List (Separator × Step) → Expr
relative_by (Step-F.Primary x []) first [] = x
relative_by _ first more = rooted start.Relative (first, more)

-- one primary without predicates is that primary
abbrev pub relative : Step × List (Separator × Step) → Expr
relative (first, more) = relative_by (out-Step first) first more

-- an axis step and its predicates (section 3.3.2)
abbrev pub axis_step : AxisStep × List Expr → Step
axis_step (along, predicates) = step.Axis along predicates

-- a primary expression and its predicates (section 3.2.1)
abbrev pub primary_step : Expr × List Expr → Step
primary_step (x, predicates) = step.Primary x predicates

-- a test along a named axis (section 3.3.2.1)
abbrev pub along_axis : AxisName × NodeTest → AxisStep
along_axis (a, t) = along.Along a t

-- a call of a function (section 3.1.5)
abbrev pub call : QName × List Expr → Expr
call (f, arguments) = e.Call f arguments

-- the constructor of an element or attribute (sections 3.9.3.1 and 3.9.3.2)
abbrev pub named_node : NamedNode × (ConstructorName × Expr) → Expr
named_node (node, (n, content)) = e.Named node n content

-- the constructor of a processing instruction (section 3.9.3.5)
abbrev pub instruction : ConstructorName × Expr → Expr
instruction (n, content) = e.Named named.ProcessingInstruction n content

-- the constructor of a document, text or comment (sections 3.9.3.3, 3.9.3.4 and 3.9.3.6)
abbrev pub unnamed_node : UnnamedNode × Expr → Expr
unnamed_node (node, content) = e.Unnamed node content

-- ---- words and symbols, and what they stand for

-- section 3.16
abbrev pub quantifiers : Table Quantifier
quantifiers = (word "some", quantifier.Some) ∷ (word "every", quantifier.Every) ∷ []

-- sections 3.7.1, 3.7.2 and 3.7.3
abbrev pub comparisons : Table ComparisonOperator
comparisons =
    (word "eq", comparison.Value relation.Equal) ∷ (word "ne", comparison.Value relation.NotEqual)
    ∷ (word "lt", comparison.Value relation.Less) ∷ (word "le", comparison.Value relation.LessEqual)
    ∷ (word "gt", comparison.Value relation.Greater)
    ∷ (word "ge", comparison.Value relation.GreaterEqual)
    ∷ (symbol s.Equal, comparison.General relation.Equal)
    ∷ (symbol s.NotEqual, comparison.General relation.NotEqual)
    ∷ (symbol s.Less, comparison.General relation.Less)
    ∷ (symbol s.LessEqual, comparison.General relation.LessEqual)
    ∷ (symbol s.Greater, comparison.General relation.Greater)
    ∷ (symbol s.GreaterEqual, comparison.General relation.GreaterEqual)
    ∷ (word "is", comparison.Node nodes.Is) ∷ (symbol s.Precedes, comparison.Node nodes.Precedes)
    ∷ (symbol s.Follows, comparison.Node nodes.Follows) ∷ []

-- section 3.5
abbrev pub signs : Table Sign
signs = (symbol s.Plus, sign.Plus) ∷ (symbol s.Minus, sign.Minus) ∷ []

-- section 3.5
abbrev pub product_operators : Table ProductOperator
product_operators =
    (symbol s.Star, product.Times) ∷ (word "div", product.Div) ∷ (word "idiv", product.Idiv)
    ∷ (word "mod", product.Mod) ∷ []

-- section 3.4.2
abbrev pub set_operators : Table SetOperator
set_operators = (word "intersect", set.Intersect) ∷ (word "except", set.Except) ∷ []

-- section 3.3
abbrev pub separators : Table Separator
separators = (symbol s.Slash, separator.Slash) ∷ (symbol s.DoubleSlash, separator.DoubleSlash) ∷ []

-- section 3.12.8
abbrev pub directions : Table Direction
directions = (word "ascending", direction.Ascending) ∷ (word "descending", direction.Descending)
    ∷ []

-- section 3.12.8
abbrev pub empty_orders : Table EmptyOrder
empty_orders = (word "greatest", empty_order.Greatest) ∷ (word "least", empty_order.Least) ∷ []

-- section 3.3.2.1
abbrev pub axis_names : Table AxisName
axis_names =
    (word "child", axis.Child) ∷ (word "descendant", axis.Descendant)
    ∷ (word "descendant-or-self", axis.DescendantOrSelf)
    ∷ (word "self", axis.SelfNode) ∷ (word "attribute", axis.Attribute)
    ∷ (word "parent", axis.Parent)
    ∷ (word "ancestor", axis.Ancestor) ∷ (word "ancestor-or-self", axis.AncestorOrSelf)
    ∷ (word "following", axis.Following) ∷ (word "following-sibling", axis.FollowingSibling)
    ∷ (word "preceding", axis.Preceding) ∷ (word "preceding-sibling", axis.PrecedingSibling) ∷ []

-- the kind tests that take no argument (section 3.3.2.2)
abbrev pub plain_kinds : Table NodeTest
plain_kinds =
    (word "node", test.Node) ∷ (word "text", test.Text) ∷ (word "comment", test.Comment)
    ∷ (word "document-node", test.Document) ∷ []

-- the words of constructors with a name (section 3.9.3)
abbrev pub named_nodes : Table NamedNode
named_nodes = (word "element", named.Element) ∷ (word "attribute", named.Attribute) ∷ []

-- the words of constructors without a name (section 3.9.3)
abbrev pub unnamed_nodes : Table UnnamedNode
unnamed_nodes = (word "document", unnamed.Document) ∷ (word "text", unnamed.Text)
    ∷ (word "comment", unnamed.Comment) ∷ []

-- the names that no call has without a prefix (appendix A.3)
abbrev pub no_calls : Table (Unit {0})
no_calls =
    (word "array", tt) ∷ (word "attribute", tt) ∷ (word "comment", tt) ∷ (word "document-node", tt)
    ∷ (word "element", tt)
    ∷ (word "empty-sequence", tt) ∷ (word "function", tt) ∷ (word "if", tt) ∷ (word "item", tt)
    ∷ (word "map", tt)
    ∷ (word "namespace-node", tt) ∷ (word "node", tt) ∷ (word "processing-instruction", tt)
    ∷ (word "schema-attribute", tt)
    ∷ (word "schema-element", tt) ∷ (word "switch", tt) ∷ (word "text", tt)
    ∷ (word "typeswitch", tt) ∷ []

-- ---- names and literals

-- a name without a prefix
abbrev pub NC : Rel (List ℕ)
NC ts n us = ts ≡ name n ∷ us

-- a name with one
abbrev pub Prefixed : Rel QName
Prefixed ts q us = (p : List ℕ) × (n : List ℕ) × (ts ≡ prefixed p n ∷ us) × (with_prefix p n ≡ q)

-- a name: an EQName without its URI form (section 2.1)
abbrev pub QN : Rel QName
QN = (unprefixed ⟨$⟩ NC) ∣ Prefixed

-- section 3.1.1
abbrev pub IntLiteral : Rel ℤ
IntLiteral ts i us = ts ≡ int i ∷ us

-- section 3.1.1
abbrev pub DecLiteral : Rel ℤ
DecLiteral ts m us = ts ≡ dec m ∷ us

-- section 3.1.1
abbrev pub StrLiteral : Rel (List ℕ)
StrLiteral ts t us = ts ≡ str t ∷ us

-- a name that a call may have without a prefix (appendix A.3)
abbrev pub CallNC : Rel (List ℕ)
CallNC ts n us = (ts ≡ name n ∷ us) × (lookup no_calls (name n) ≡ None)

-- the name of a call (section 3.1.5)
abbrev pub CallName : Rel QName
CallName = (unprefixed ⟨$⟩ CallNC) ∣ Prefixed

-- section 3.1.2
abbrev pub Variable : Rel QName
Variable = symbol s.Dollar ▹ QN

-- ---- the lines

-- one phrase and more, with commas between them
abbrev pub Commas : {A : Type 0} → Rel A → Rel (List A)
Commas P = listed ⟨$⟩ P & Many (symbol s.Comma ▹ P)

module _ (Single : Rel Expr) where
  -- Expr: one single expression and more, with commas between them (section 3.4.1)
  abbrev pub Whole : Rel Expr
  Whole = several e.Sequence ⟨$⟩ Single & Many (symbol s.Comma ▹ Single)

  -- a whole expression or nothing, in braces (section 3.1.8)
  abbrev pub Body : Rel Expr
  Body = symbol s.OpenBrace ▹ (empty (e.Sequence []) ∣ Whole) ◃ symbol s.CloseBrace

  -- a computed name (section 3.9.3)
  abbrev pub Computed : Rel ConstructorName
  Computed = constructor_name.Computed ⟨$⟩ symbol s.OpenBrace ▹ Whole ◃ symbol s.CloseBrace

  -- the name of a constructed element or attribute (sections 3.9.3.1 and 3.9.3.2)
  abbrev pub NameOfNode : Rel ConstructorName
  NameOfNode = (constructor_name.Literal ⟨$⟩ QN) ∣ Computed

  -- the name of a constructed processing instruction (section 3.9.3.5)
  abbrev pub NameOfInstruction : Rel ConstructorName
  NameOfInstruction = (constructor_name.Literal ⟨$⟩ unprefixed ⟨$⟩ NC) ∣ Computed

  -- a computed constructor (section 3.9.3)
  abbrev pub Make : Rel Expr
  Make = (named_node ⟨$⟩ OneOf named_nodes & NameOfNode & Body)
      ∣ (instruction ⟨$⟩ word "processing-instruction" ▹ NameOfInstruction & Body)
      ∣ (unnamed_node ⟨$⟩ OneOf unnamed_nodes & Body)

  -- section 3.1.5
  abbrev pub Arguments : Rel (List Expr)
  Arguments = symbol s.OpenParenthesis ▹ (empty [] ∣ Commas Single) ◃ symbol s.CloseParenthesis

  -- the name of a function and its arguments (section 3.1.5)
  abbrev pub Called : Rel (QName × List Expr)
  Called = CallName & Arguments

  -- section 3.1.5
  abbrev pub Call : Rel Expr
  Call = call ⟨$⟩ Called

  -- section 3.1.3
  abbrev pub Parenthesised : Rel Expr
  Parenthesised = symbol s.OpenParenthesis ▹ (empty (e.Sequence []) ∣ Whole)
      ◃ symbol s.CloseParenthesis

  -- section 3.1
  abbrev pub Primary : Rel Expr
  Primary = (e.Int ⟨$⟩ IntLiteral) ∣ (e.Dec ⟨$⟩ DecLiteral) ∣ (e.Str ⟨$⟩ StrLiteral)
      ∣ (e.Variable ⟨$⟩ Variable)
      ∣ Parenthesised ∣ Is (symbol s.Dot) e.ContextItem ∣ Call ∣ Make

  -- an optional name or star
  abbrev pub NameOrAny : Rel (Option QName)
  NameOrAny = (Some ⟨$⟩ QN) ∣ Is (symbol s.Star) None ∣ empty None

  -- section 3.3.2.2
  abbrev pub KindTest : Rel NodeTest
  KindTest = (OneOf plain_kinds ◃ symbol s.OpenParenthesis ◃ symbol s.CloseParenthesis)
      ∣ (test.ProcessingInstruction ⟨$⟩ word "processing-instruction" ▹ symbol s.OpenParenthesis
      ▹ Maybe NC ◃ symbol s.CloseParenthesis)
      ∣ (test.Element ⟨$⟩ word "element" ▹ symbol s.OpenParenthesis ▹ NameOrAny
      ◃ symbol s.CloseParenthesis)
      ∣ (test.Attribute ⟨$⟩ word "attribute" ▹ symbol s.OpenParenthesis ▹ NameOrAny
      ◃ symbol s.CloseParenthesis)

  -- a node test (section 3.3.2.2)
  abbrev pub Test : Rel NodeTest
  Test = (test.Named ⟨$⟩ QN) ∣ Is (symbol s.Star) test.AnyName ∣ KindTest

  -- an axis step without its predicates (sections 3.3.2.1 and 3.3.5)
  abbrev pub AxisStepRel : Rel AxisStep
  AxisStepRel = (along_axis ⟨$⟩ OneOf axis_names & symbol s.DoubleColon ▹ Test)
      ∣ (along.Attribute ⟨$⟩ symbol s.At ▹ Test)
      ∣ Is (symbol s.DoubleDot) along.Parent ∣ (along.Abbreviated ⟨$⟩ Test)

  -- section 3.3.3
  abbrev pub Predicate : Rel Expr
  Predicate = symbol s.OpenBracket ▹ Whole ◃ symbol s.CloseBracket

  -- a step with its predicates (sections 3.3.2 and 3.2.1)
  abbrev pub StepRel : Rel Step
  StepRel = (axis_step ⟨$⟩ AxisStepRel & Many Predicate)
      ∣ (primary_step ⟨$⟩ Primary & Many Predicate)

  -- a relative path (section 3.3.1)
  abbrev pub Relative : Rel (Step × List (Separator × Step))
  Relative = StepRel & Many (OneOf separators & StepRel)

  -- a slash alone, which isn't followed by what begins a step (section 3.3; appendix A.1.2,
  -- leading-lone-slash)
  abbrev pub Lone : Rel Expr
  Lone ts a us = (ts ≡ symbol s.Slash ∷ us) × (begins_step us ≡ false) × (e.Root ≡ a)

  -- section 3.3
  abbrev pub Path : Rel Expr
  Path = Lone ∣ (rooted start.Root ⟨$⟩ symbol s.Slash ▹ Relative)
      ∣ (rooted start.RootAndBelow ⟨$⟩ symbol s.DoubleSlash ▹ Relative)
      ∣ (relative ⟨$⟩ Relative)

  -- section 3.19
  abbrev pub Map : Rel Expr
  Map = chain e.Map ⟨$⟩ Path & Many (symbol s.Bang ▹ Path)

  -- section 3.5
  abbrev pub Unary : Rel Expr
  Unary = signed ⟨$⟩ Many (OneOf signs) & Map

  -- section 3.20
  abbrev pub Arrow : Rel Expr
  Arrow = chain e.Arrow ⟨$⟩ Unary & Many (symbol s.Arrow ▹ Called)

  -- intersections and differences (section 3.4.2)
  abbrev pub Inter : Rel Expr
  Inter = chain e.SetOperation ⟨$⟩ Arrow & Many (OneOf set_operators & Arrow)

  -- section 3.4.2
  abbrev pub Union : Rel Expr
  Union = several e.Union ⟨$⟩ Inter & Many ((word "union" ▹ Inter) ∣ (symbol s.Bar ▹ Inter))

  -- products (section 3.5)
  abbrev pub Prod : Rel Expr
  Prod = chain e.Product ⟨$⟩ Union & Many (OneOf product_operators & Union)

  -- section 3.5
  abbrev pub Sum : Rel Expr
  Sum = chain e.Sum ⟨$⟩ Prod & Many (OneOf signs & Prod)

  -- section 3.4.1
  abbrev pub Range : Rel Expr
  Range = ranged ⟨$⟩ Sum & Maybe (word "to" ▹ Sum)

  -- section 3.6
  abbrev pub Concat : Rel Expr
  Concat = several e.Concat ⟨$⟩ Range & Many (symbol s.DoubleBar ▹ Range)

  -- section 3.7
  abbrev pub Comp : Rel Expr
  Comp = compared ⟨$⟩ Concat & Maybe (OneOf comparisons & Concat)

  -- section 3.8
  abbrev pub And : Rel Expr
  And = several e.And ⟨$⟩ Comp & Many (word "and" ▹ Comp)

  -- section 3.8
  abbrev pub Or : Rel Expr
  Or = several e.Or ⟨$⟩ And & Many (word "or" ▹ And)

  -- the test of a conditional expression (section 3.14)
  abbrev pub Tested : Rel Expr
  Tested = symbol s.OpenParenthesis ▹ Whole ◃ symbol s.CloseParenthesis

  -- section 3.14
  abbrev pub If : Rel Expr
  If = conditional ⟨$⟩ word "if" ▹ Tested & word "then" ▹ Single & word "else" ▹ Single

  -- a binding of a quantified expression (section 3.16)
  abbrev pub QB : Rel (QName × Expr)
  QB = Variable & word "in" ▹ Single

  -- section 3.16
  abbrev pub Quant : Rel Expr
  Quant = quantified ⟨$⟩ OneOf quantifiers & Commas QB & word "satisfies" ▹ Single

  -- section 3.12.8
  abbrev pub EmptyWords : Rel EmptyOrder
  EmptyWords = (word "empty" ▹ OneOf empty_orders) ∣ empty empty_order.Least

  -- section 3.12.8
  abbrev pub DirectionWord : Rel Direction
  DirectionWord = OneOf directions ∣ empty direction.Ascending

  -- a key of an order (section 3.12.8)
  abbrev pub OrderS : Rel (Expr × OrderModifier)
  OrderS = order_spec ⟨$⟩ Single & DirectionWord & EmptyWords

  -- section 3.12.8
  abbrev pub OrderBy : Rel Clause
  OrderBy = clause.Order ⟨$⟩ word "order" ▹ word "by" ▹ Commas OrderS

  -- section 3.12.8
  abbrev pub Order : Rel Clause
  Order = (word "stable" ▹ OrderBy) ∣ OrderBy

  -- a grouping variable (section 3.12.7)
  abbrev pub GroupS : Rel GroupSpec
  GroupS = group_spec ⟨$⟩ Variable & Maybe (symbol s.Assign ▹ Single)

  -- section 3.12.7
  abbrev pub Group : Rel Clause
  Group = clause.Group ⟨$⟩ word "group" ▹ word "by" ▹ Commas GroupS

  -- section 3.12.5
  abbrev pub Filter : Rel Clause
  Filter = clause.Filter ⟨$⟩ word "where" ▹ Single

  -- a binding of `let` (section 3.12.3)
  abbrev pub LetB : Rel (QName × Expr)
  LetB = Variable & symbol s.Assign ▹ Single

  -- section 3.12.3
  abbrev pub Let : Rel Clause
  Let = clause.Let ⟨$⟩ word "let" ▹ Commas LetB

  -- section 3.12.2
  abbrev pub AllowingWords : Rel AllowingEmpty
  AllowingWords = (word "allowing" ▹ Is (word "empty") allowing.Yes) ∣ empty allowing.No

  -- a binding of `for` (section 3.12.2)
  abbrev pub ForB : Rel (QName × AllowingEmpty × Option QName × Expr)
  ForB = for_binding ⟨$⟩ Variable & AllowingWords & Maybe (word "at" ▹ Variable)
      & word "in" ▹ Single

  -- section 3.12.2
  abbrev pub For : Rel Clause
  For = clause.For ⟨$⟩ word "for" ▹ Commas ForB

  -- section 3.12.6
  abbrev pub Count : Rel Clause
  Count = clause.Count ⟨$⟩ word "count" ▹ Variable

  -- any clause (section 3.12)
  abbrev pub ClauseRel : Rel Clause
  ClauseRel = For ∣ Let ∣ Filter ∣ Group ∣ Count ∣ Order

  -- section 3.12
  abbrev pub Flwor : Rel Expr
  Flwor = flwor ⟨$⟩ (For ∣ Let) & Many ClauseRel & word "return" ▹ Single

  -- ExprSingle (section 3)
  abbrev pub Any : Rel Expr
  Any = Flwor ∣ Quant ∣ If ∣ Or

-- with singles nested at most so deep
abbrev pub Single : ℕ → Rel Expr
Single zero = λ ts e us. ⊥
Single (suc height) = Any (Single height)

-- the tokens are an expression
abbrev pub Derives : Tokens → Expr → Type 0
Derives ts e = (height : ℕ) × Whole (Single height) ts e []
