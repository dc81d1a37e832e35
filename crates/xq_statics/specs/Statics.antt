-- The places of an expression in the order of its text, and what is in scope at each (XQuery 3.1,
-- 2.1.1, 3.1.2, 3.12, 3.16, 3.20).
use Rattle.std.specs.Prelude.{◌+◌, List, [], ◌∷◌, ◌++◌, map, length, Option, Some, None}
use Rattle.xq_atoms.specs.declared.refusals.Code.{Code}
use Rattle.xq_atoms.specs.Text.{Text}
use Rattle.xq_expressions.specs.declared.names.QName.{QName}
use Rattle.xq_expressions.specs.declared.operators.AxisStep.{AxisStep}
use Rattle.xq_expressions.specs.declared.operators.AxisStep.TheVariants as axis_step
use Rattle.xq_expressions.specs.declared.operators.NodeTest.{NodeTest}
use Rattle.xq_expressions.specs.declared.operators.NodeTest.TheVariants as test
use Rattle.xq_expressions.specs.declared.expressions.Expr.{Expr, fold-Expr}
use Rattle.xq_expressions.specs.declared.expressions.Clause.TheOpen.{Clause-F, ConstructorName-F, Expr-F, GroupSpec-F, Step-F}
use Rattle.xq_statics.specs.Places.{Place, named, position, variable, grouping, call}
use Rattle.xq_statics.specs.Faults.{first_fault}

-- the places of an expression, where these variables are in scope
abbrev pub Places : Type 0
Places = List Text → List Place

-- ---- parts of an expression, one after another

-- the places of one part, and then those of a second one
abbrev pub after : Places → Places → Places
after first second names = first names ++ second names

-- the places of all parts, from the first one on; in each the same variables are in scope
abbrev pub each : List Places → Places
each [] names = []
each (part ∷ parts) names = part names ++ each parts names

-- the same, of parts with an operator at each, which has no places
abbrev pub with_operators : {A : Type 0} → List (A × Places) → Places
with_operators operands = each (map (λ operand. operand.1) operands)

-- a call after `=>`: one argument stands before the arrow, and the others in the call
abbrev pub arrow_call : QName → List Places → Places
arrow_call name arguments = λ names. call name (length arguments + 1) ∷ each arguments names

-- ---- what binds variables: clauses, and the bindings in them

-- the places, where these variables are in scope and those have been bound by this FLWOR; and what
-- is bound from here on
pub record Binding : Type 0 where
  pub places : List Text → List Text → List Place
  pub binds : List Text

-- no places, and nothing bound
abbrev pub nothing : Binding
nothing = record { places = λ names bound. []; binds = [] }

-- a second one sees what the first binds
abbrev pub then_binding : Binding → Binding → Binding
then_binding first second = record {
  places = λ names bound. first.places names bound
      ++ second.places (names ++ first.binds) (bound ++ first.binds);
  binds = first.binds ++ second.binds;
}

-- one after another: each sees what those before it bind
abbrev pub in_turn : List Binding → Binding
in_turn [] = nothing
in_turn (first ∷ more) = then_binding first (in_turn more)

-- ...and then an expression that sees all of them
abbrev pub binding_for : Binding → Places → Places
binding_for bindings part names = bindings.places names [] ++ part (names ++ bindings.binds)

-- an expression, as a clause that binds nothing
abbrev pub binds_nothing : Places → Binding
binds_nothing part = record { places = λ names bound. part names; binds = [] }

-- `$v := E`, and `$v in E` of a quantified expression: the variable isn't in scope in E
abbrev pub assigned : QName → Places → Binding
assigned name part =
    record { places = λ names bound. named name ∷ part names; binds = name.local ∷ [] }

-- the place of `at $p`, if it stands there
abbrev pub position_places : QName → Option QName → List Place
position_places name None = []
position_places name (Some at) = position at name ∷ []

-- the variable that `at $p` binds, if it stands there
abbrev pub position_names : Option QName → List Text
position_names None = []
position_names (Some at) = at.local ∷ []

-- `$v at $p in E`, with `allowing empty` or without
abbrev pub ranging : QName → Option QName → Places → Binding
ranging name at part = record {
  places = λ names bound. named name ∷ position_places name at ++ part names;
  binds = name.local ∷ position_names at;
}

-- `count $v`
abbrev pub counting : QName → Binding
counting name = record { places = λ names bound. named name ∷ []; binds = name.local ∷ [] }

-- `$v` as a grouping variable: it stays bound
abbrev pub grouped_by : QName → Binding
grouped_by name = record { places = λ names bound. grouping name bound ∷ []; binds = [] }

-- ---- the forms

-- the place of the name in a test of elements or attributes, if there is one
abbrev pub test_places : NodeTest → List Place
test_places (test.Named name) = named name ∷ []
test_places (test.Element (Some name)) = named name ∷ []
test_places (test.Attribute (Some name)) = named name ∷ []
test_places _ = []

-- a step along an axis has the places of its test, and `..` has none
abbrev pub axis_places : AxisStep → List Place
axis_places (axis_step.Along axis t) = test_places t
axis_places (axis_step.Attribute t) = test_places t
axis_places axis_step.Parent = []
axis_places (axis_step.Abbreviated t) = test_places t

-- for each type of the cycle, what its parts have been given
abbrev pub Layer : (Type 0 → Type 0 → Type 0 → Type 0 → Type 0 → Type 0) → Type 0
Layer F = F Binding Places Places Binding Places

-- the places of each form of expression, by those of its parts
abbrev pub form_places : Layer Expr-F → Places
form_places (Expr-F.Sequence parts) = each parts
form_places (Expr-F.Flwor clauses part) = binding_for (in_turn clauses) part
form_places (Expr-F.Quantified quantifier bindings part) = binding_for
    (in_turn (map (λ b. assigned b.0 b.1) bindings)) part
form_places (Expr-F.If condition positive negative) = after condition (after positive negative)
form_places (Expr-F.Or parts) = each parts
form_places (Expr-F.And parts) = each parts
form_places (Expr-F.Comparison left operator right) = after left right
form_places (Expr-F.Concat parts) = each parts
form_places (Expr-F.Range left right) = after left right
form_places (Expr-F.Sum first more) = after first (with_operators more)
form_places (Expr-F.Product first more) = after first (with_operators more)
form_places (Expr-F.Union parts) = each parts
form_places (Expr-F.SetOperation first more) = after first (with_operators more)
form_places (Expr-F.Unary signs part) = part
form_places (Expr-F.Arrow first calls) = after first
    (each (map (λ c. arrow_call c.0 c.1) calls))
form_places (Expr-F.Map first more) = after first (each more)
form_places Expr-F.Root = λ names. []
form_places (Expr-F.Path start first more) = after first (with_operators more)
form_places (Expr-F.Int value) = λ names. []
form_places (Expr-F.Dec value) = λ names. []
form_places (Expr-F.Str value) = λ names. []
form_places (Expr-F.«Expr::Variable» name) = λ names. variable name names ∷ []
form_places Expr-F.ContextItem = λ names. []
form_places (Expr-F.Call name arguments) = λ names. call name (length arguments)
    ∷ each arguments names
form_places (Expr-F.Named node name content) = after name content
form_places (Expr-F.Unnamed node content) = content

-- the place of a constructed node's name, or the places of the expression that computes it
abbrev pub name_places : Layer ConstructorName-F → Places
name_places (ConstructorName-F.Literal name) = λ names. named name ∷ []
name_places (ConstructorName-F.Computed part) = part

-- XQuery 3.1, 3.12: the places of each clause of a FLWOR, and what it binds
abbrev pub clause_binding : Layer Clause-F → Binding
clause_binding (Clause-F.For bindings) = in_turn (map (λ b. ranging b.0 b.2 b.3) bindings)
clause_binding (Clause-F.Let bindings) = in_turn (map (λ b. assigned b.0 b.1) bindings)
clause_binding (Clause-F.Filter part) = binds_nothing part
clause_binding (Clause-F.Group specs) = in_turn specs
clause_binding (Clause-F.Order specs) = binds_nothing (each (map (λ s. s.0) specs))
clause_binding (Clause-F.Count name) = counting name

-- XQuery 3.1, 3.12.7: a grouping variable, alone or bound by `:=`
abbrev pub group_binding : Layer GroupSpec-F → Binding
group_binding (GroupSpec-F.«GroupSpec::Variable» name) = grouped_by name
group_binding (GroupSpec-F.Assigned name part) = assigned name part

-- the places of a step or of a primary expression, and then those of its predicates
abbrev pub step_places : Layer Step-F → Places
step_places (Step-F.Axis axis predicates) = λ names. axis_places axis ++ each predicates names
step_places (Step-F.Primary part predicates) = after part (each predicates)

-- the places of an expression
abbrev pub places : Expr → Places
places = fold-Expr Binding Places Places Binding Places clause_binding name_places form_places
    group_binding step_places

-- the static fault of a query: that of the first place which has one, where no variable is in scope
abbrev pub static_fault : Expr → Option Code
static_fault query = first_fault (places query [])
