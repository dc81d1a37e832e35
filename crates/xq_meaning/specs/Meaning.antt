-- What an expression means, as it is parsed: XQuery 3.1, over names. The tables stand at the end,
-- one line a form.
use Rattle.std.proofs.Common.{suc}
use Rattle.std.specs.Prelude.{ℕ, List, [], ◌∷◌, ◌++◌, map, fold, length, Bool, true, false, Option, Some, None, Ok, Err, if◌then◌else◌}
use Rattle.std.specs.List.{zip, flat_map}
use Rattle.xq_atoms.specs.declared.refusals.Code.TheVariants.{XPST0017, XQST0094}
use Rattle.xq_expressions.specs.declared.names.QName.{QName}
use Rattle.xq_expressions.specs.declared.operators.AllowingEmpty.{AllowingEmpty}
use Rattle.xq_expressions.specs.declared.operators.OrderModifier.{OrderModifier}
use Rattle.xq_expressions.specs.declared.operators.PathStart.{PathStart}
use Rattle.xq_expressions.specs.declared.operators.PathStart.TheVariants.{Relative, Root, RootAndBelow}
use Rattle.xq_expressions.specs.declared.operators.Separator.{Separator}
use Rattle.xq_expressions.specs.declared.operators.Separator.TheVariants.{Slash, DoubleSlash}
use Rattle.xq_expressions.specs.declared.operators.AxisStep.{AxisStep}
use Rattle.xq_expressions.specs.declared.operators.AxisStep.TheVariants as step
use Rattle.xq_expressions.specs.declared.operators.AxisName.{AxisName}
use Rattle.xq_expressions.specs.declared.operators.AxisName.TheVariants as name
use Rattle.xq_expressions.specs.declared.operators.NodeTest.{NodeTest}
use Rattle.xq_expressions.specs.declared.operators.NodeTest.TheVariants as written
use Rattle.xq_expressions.specs.declared.expressions.Expr.{Expr, fold-Expr}
use Rattle.xq_expressions.specs.declared.expressions.ConstructorName.{ConstructorName, fold-ConstructorName}
use Rattle.xq_expressions.specs.declared.expressions.Clause.{Clause, fold-Clause}
use Rattle.xq_expressions.specs.declared.expressions.GroupSpec.{GroupSpec, fold-GroupSpec}
use Rattle.xq_expressions.specs.declared.expressions.Step.{Step, fold-Step}
use Rattle.xq_expressions.specs.declared.expressions.Clause.TheOpen.{Clause-F, ConstructorName-F, Expr-F, GroupSpec-F, Step-F}
use Rattle.xq_trees.specs.declared.Axis.{Axis}
use Rattle.xq_trees.specs.declared.Axis.TheVariants as axis
use Rattle.xq_expressions.specs.declared.signatures.Function.{Function}
use Rattle.xq_meaning.specs.declared.node_tests.Test.{Test}
use Rattle.xq_meaning.specs.declared.node_tests.Test.TheVariants as test
use Rattle.xq_meaning.specs.declared.operators.Operator.{Operator}
use Rattle.xq_meaning.specs.declared.operators.Operator.TheVariants as operator
use Rattle.xq_atoms.specs.Judged.{Judged}
use Rattle.xq_atoms.specs.Text.{Text, text_eq}
use Rattle.xq_atoms.specs.Atom.{Integer, Decimal, String}
use Rattle.xq_trees.specs.Tree.{Tree}
use Rattle.xq_trees.specs.Tuples.{Tuple}
use Rattle.xq_expressions.specs.Signatures.{function_named, arity, admits}
use Rattle.xq_meaning.specs.Items.{Item}
use Rattle.xq_meaning.specs.Arguments.{each}
use Rattle.xq_meaning.specs.Doing.{Doing, Outcome, ◌>>=◌, give, refuse, judged, in_turn}
use Rattle.xq_meaning.specs.Forms

-- # Names and what they stand for

abbrev pub Environment : Type 0
Environment = Text → List Item

-- 2.1: a frame in which the variables have names
abbrev pub Frame : Type 0
Frame = Forms.Frame Environment

-- what an expression means in such a frame
abbrev pub Meaning : Type 0
Meaning = Forms.Meaning Environment

-- the variable bound to this value, which hides an earlier one of its name
abbrev pub bind : Text → Environment → List Item → Environment
bind v env xs = λ w. if text_eq w v then xs else env w

-- several variables, one after another: a later one hides an earlier one of its name
abbrev pub bind_all : Environment → List (Text × List Item) → Environment
bind_all env [] = env
bind_all env (b ∷ bs) = bind_all (bind b.0 env b.1) bs

-- 3.1.2; the prefix of a variable is refused before
abbrev pub variable : Text → Meaning
variable v frame = give (frame.env v)

-- the name without its prefix, where there is a name
abbrev pub local_name : Option QName → Option Text
local_name None = None
local_name (Some q) = Some q.local

-- # Operators that stand in lists of their own

abbrev pub joined_by : Operator → List Meaning → Meaning
joined_by op [] = Forms.sequence []
joined_by op (first ∷ rest) = Forms.chain first (map (λ part. (op, part)) rest)

-- # Steps: 3.3.2 and 3.3.5

abbrev pub axis_of : AxisName → Axis
axis_of name.Child = axis.Child
axis_of name.Descendant = axis.Descendant
axis_of name.DescendantOrSelf = axis.DescendantOrSelf
axis_of name.SelfNode = axis.SelfNode
axis_of name.Attribute = axis.Attributes
axis_of name.Parent = axis.Parent
axis_of name.Ancestor = axis.Ancestor
axis_of name.AncestorOrSelf = axis.AncestorOrSelf
axis_of name.Following = axis.Following
axis_of name.FollowingSibling = axis.FollowingSibling
axis_of name.Preceding = axis.Preceding
axis_of name.PrecedingSibling = axis.PrecedingSibling

-- a name or * tests elements, on the attribute axis attributes
abbrev pub of_principal : Axis → Option Text → Test
of_principal axis.Attributes wanted = test.Attribute wanted
of_principal direction wanted = test.Element wanted

-- what a node test asks of a node on this axis
abbrev pub test_on : Axis → NodeTest → Test
test_on direction (written.Named q) = of_principal direction (Some q.local)
test_on direction written.AnyName = of_principal direction None
test_on direction written.Node = test.Any
test_on direction written.Text = test.Text
test_on direction written.Comment = test.Comment
test_on direction written.Document = test.Document
test_on direction (written.ProcessingInstruction wanted) = test.ProcessingInstruction wanted
test_on direction (written.Element wanted) = test.Element (local_name wanted)
test_on direction (written.Attribute wanted) = test.Attribute (local_name wanted)

-- the axis of a bare test
abbrev pub default_axis : NodeTest → Axis
default_axis (written.Attribute wanted) = axis.Attributes
default_axis node_test = axis.Child

-- a step with its axis, its node test and its predicates
abbrev pub step_on : Axis → NodeTest → List Meaning → Meaning
step_on direction node_test predicates =
    Forms.step direction (test_on direction node_test) predicates

-- a step as it is written, in full or abbreviated, and its predicates
abbrev pub axis_step : AxisStep → List Meaning → Meaning
axis_step (step.Along axis_name node_test) = step_on (axis_of axis_name) node_test
axis_step (step.Attribute node_test) = step_on axis.Attributes node_test
axis_step step.Parent = Forms.step axis.Parent test.Any
axis_step (step.Abbreviated node_test) = step_on (default_axis node_test) node_test

-- # Paths: 3.3

-- E1//E2 is E1/descendant-or-self::node()/E2
abbrev pub after : Separator → Meaning → List Meaning
after Slash part = part ∷ []
after DoubleSlash part = Forms.self_and_below ∷ part ∷ []

-- the parts of a path after its first, with what each `//` stands for
abbrev pub later_parts : List (Separator × Meaning) → List Meaning
later_parts steps = flat_map (λ (separator, part). after separator part) steps

-- a path that begins with its first step, with `/`, or with `//`
abbrev pub path_from : PathStart → Meaning → List (Separator × Meaning) → Meaning
path_from Relative first steps = Forms.path first (later_parts steps)
path_from Root first steps = Forms.path Forms.root (first ∷ later_parts steps)
path_from RootAndBelow first steps =
    Forms.path Forms.root (Forms.self_and_below ∷ first ∷ later_parts steps)

-- # Calls: 3.1.5 and 3.20

abbrev pub unknown_function : Meaning
unknown_function frame = refuse XPST0017

-- the call, where its number of arguments is admitted, else XPST0017
abbrev pub call_if : Bool → Function → List Meaning → Meaning
call_if true function parts = Forms.call function parts
call_if false function parts = unknown_function

-- the function has to be known, and to admit so many arguments, else XPST0017
abbrev pub call_of : Option Function → List Meaning → Meaning
call_of None parts = unknown_function
call_of (Some function) parts = call_if (admits (arity function) (length parts)) function parts

-- a call by the name of its function
abbrev pub call_named : QName → List Meaning → Meaning
call_named q parts = call_of (function_named q.prefix q.local) parts

-- E => f(E1, E2) is the call f(E, E1, E2), and so on from left to right
abbrev pub arrow : Meaning → List (QName × List Meaning) → Meaning
arrow first calls = fold (λ value c. call_named c.0 (value ∷ c.1)) first calls

-- # FLWOR: 3.12. A stream has its tuples and the names of their slots; a later binding of a name
-- hides an earlier one

pub record Stream : Type 0 where
  pub names : List Text
  pub tuples : List (Tuple Item)

-- one tuple, with no slot
abbrev pub first_stream : Stream
first_stream = record { names = []; tuples = [] ∷ [] }

-- a clause leads from stream to stream
abbrev pub ClauseMeaning : Type 0
ClauseMeaning = Frame → Stream → Doing Stream

-- the frame of a tuple, in which the names of its slots stand for their values
abbrev pub at_tuple : Frame → List Text → Tuple Item → Frame
at_tuple frame names tuple = record frame { env = bind_all frame.env (zip names tuple) }

-- the tuples, whose slots have these names
abbrev pub named : List Text → Doing (List (Tuple Item)) → Doing Stream
named names act = do
  tuples ← act
  give (record { names = names; tuples = tuples })

-- the name of the positional variable, where there is one
abbrev pub position_name : Option Text → List Text
position_name None = []
position_name (Some v) = v ∷ []

-- whether there is a positional variable
abbrev pub is_asked : Option Text → Bool
is_asked None = false
is_asked (Some v) = true

-- 3.12.2: one binding of for, with or without `allowing empty` and a positional variable
abbrev pub for_clause : Text → AllowingEmpty → Option Text → Meaning → ClauseMeaning
for_clause v empties at part frame s =
    let next = Forms.for_tuples empties (is_asked at) part (at_tuple frame s.names) s.tuples in
    named (s.names ++ v ∷ position_name at) next

-- 3.12.3: one binding of let
abbrev pub let_clause : Text → Meaning → ClauseMeaning
let_clause v part frame s =
    named (s.names ++ v ∷ []) (Forms.let_tuples part (at_tuple frame s.names) s.tuples)

-- 3.12.5: where
abbrev pub where_clause : Meaning → ClauseMeaning
where_clause part frame s =
    named s.names (Forms.where_tuples part (at_tuple frame s.names) s.tuples)

-- 3.12.6: count
abbrev pub count_clause : Text → ClauseMeaning
count_clause v frame s = named (s.names ++ v ∷ []) (Forms.count_tuples s.tuples)

-- the last slot of that name, among those from number n on
abbrev pub slot_from : ℕ → Option ℕ → List Text → Text → Option ℕ
slot_from n found [] v = found
slot_from n found (w ∷ ws) v = slot_from (suc n) (if text_eq w v then Some n else found) ws v

-- the slot, or XQST0094 where there is none
abbrev pub slot_or_fault : Option ℕ → Judged ℕ
slot_or_fault None = Err XQST0094
slot_or_fault (Some slot) = Ok slot

-- the slot of a grouping variable: the last one of its name
abbrev pub slot_of : List Text → Text → Judged ℕ
slot_of names v = slot_or_fault (slot_from 0 None names v)

-- 3.12.7: group by, where the grouping variables are bound already
abbrev pub group_clause : List Text → ClauseMeaning
group_clause vs frame s = do
  slots ← judged (each (slot_of s.names) vs)
  named s.names (Forms.group_tuples slots s.tuples)

-- 3.12.8: order by
abbrev pub order_clause : List (Meaning × OrderModifier) → ClauseMeaning
order_clause specs frame s =
    named s.names (Forms.order_tuples specs (at_tuple frame s.names) s.tuples)

-- a clause over what the clause before it gave
abbrev pub next_clause : Frame → Stream → ClauseMeaning → Doing Stream
next_clause frame s clause = clause frame s

-- several bindings in one clause are as many clauses
abbrev pub clauses : List ClauseMeaning → ClauseMeaning
clauses parts frame s = in_turn (next_clause frame) s parts

-- each clause for all tuples before the next, and then the return
abbrev pub flwor : List ClauseMeaning → Meaning → Meaning
flwor parts part frame = do
  s ← clauses parts frame first_stream
  Forms.return_of part (at_tuple frame s.names) s.tuples

-- 3.12.7: a grouping variable, and what it is bound to first, as by let
abbrev pub GroupMeaning : Type 0
GroupMeaning = Text × List ClauseMeaning

-- the variables that are assigned are bound first, and then the tuples are grouped
abbrev pub group_by : List GroupMeaning → ClauseMeaning
group_by specs =
    clauses (flat_map (λ (v, lets). lets) specs ++ group_clause (map (λ (v, lets). v) specs) ∷ [])

-- # One line a form, with the meanings of its parts in their places

abbrev pub clause_meaning : Clause-F ClauseMeaning Meaning Meaning GroupMeaning Meaning →
    ClauseMeaning
clause_meaning (Clause-F.For bindings) =
    clauses (map (λ (v, empties, at, part). for_clause v.local empties (local_name at) part)
    bindings)
clause_meaning (Clause-F.Let bindings) =
    clauses (map (λ (v, part). let_clause v.local part) bindings)
clause_meaning (Clause-F.Filter part) = where_clause part
clause_meaning (Clause-F.Group specs) = group_by specs
clause_meaning (Clause-F.Order specs) = order_clause specs
clause_meaning (Clause-F.Count v) = count_clause v.local

-- a grouping variable, bound before or assigned here
abbrev pub group_meaning : GroupSpec-F ClauseMeaning Meaning Meaning GroupMeaning Meaning →
    GroupMeaning
group_meaning (GroupSpec-F.«GroupSpec::Variable» v) = (v.local, [])
group_meaning (GroupSpec-F.Assigned v part) = (v.local, let_clause v.local part ∷ [])

-- a name that is written out is the name that a string gives
abbrev pub name_meaning : ConstructorName-F ClauseMeaning Meaning Meaning GroupMeaning Meaning →
    Meaning
name_meaning (ConstructorName-F.Literal v) = Forms.literal (String v.local)
name_meaning (ConstructorName-F.Computed part) = part

-- a step along an axis, or a primary expression, with its predicates
abbrev pub step_meaning : Step-F ClauseMeaning Meaning Meaning GroupMeaning Meaning → Meaning
step_meaning (Step-F.Axis written_step predicates) = axis_step written_step predicates
step_meaning (Step-F.Primary part predicates) = Forms.filter_of part predicates

-- an expression, from the meanings of its parts
abbrev pub form_meaning : Expr-F ClauseMeaning Meaning Meaning GroupMeaning Meaning → Meaning
form_meaning (Expr-F.Int n) = Forms.literal (Integer n)
form_meaning (Expr-F.Dec m) = Forms.literal (Decimal m)
form_meaning (Expr-F.Str t) = Forms.literal (String t)
form_meaning (Expr-F.«Expr::Variable» v) = variable v.local
form_meaning Expr-F.ContextItem = Forms.context
form_meaning (Expr-F.Call q parts) = call_named q parts
form_meaning (Expr-F.Arrow first calls) = arrow first calls
form_meaning (Expr-F.Map first parts) = Forms.simple_map first parts
form_meaning (Expr-F.Sequence parts) = Forms.sequence parts
form_meaning (Expr-F.Range left right) = Forms.chain left ((operator.Range, right) ∷ [])
form_meaning (Expr-F.Union parts) = joined_by operator.Union parts
form_meaning (Expr-F.SetOperation first rest) =
    Forms.chain first (map (λ (op, part). (operator.SetOperation op, part)) rest)
form_meaning (Expr-F.Sum first rest) =
    Forms.chain first (map (λ (op, part). (operator.Sum op, part)) rest)
form_meaning (Expr-F.Product first rest) =
    Forms.chain first (map (λ (op, part). (operator.Product op, part)) rest)
form_meaning (Expr-F.Unary signs part) = Forms.unary signs part
form_meaning (Expr-F.Concat parts) = joined_by operator.Concat parts
form_meaning (Expr-F.Comparison left op right) =
    Forms.chain left ((operator.Comparison op, right) ∷ [])
form_meaning (Expr-F.Or parts) = Forms.or parts
form_meaning (Expr-F.And parts) = Forms.and parts
form_meaning Expr-F.Root = Forms.root
form_meaning (Expr-F.Path start first steps) = path_from start first steps
form_meaning (Expr-F.Named kind name_part part) = Forms.named_node kind name_part part
form_meaning (Expr-F.Unnamed kind part) = Forms.unnamed_node kind part
form_meaning (Expr-F.Flwor parts part) = flwor parts part
form_meaning (Expr-F.If part yes' no') = Forms.conditional part yes' no'
form_meaning (Expr-F.Quantified which bindings part) =
    Forms.quantified which (map (λ (v, range). (bind v.local, range)) bindings) part

-- # The meaning of an expression in a frame

abbrev pub mean : Expr → Meaning
mean =
    fold-Expr ClauseMeaning Meaning Meaning GroupMeaning Meaning clause_meaning name_meaning
    form_meaning group_meaning step_meaning

-- and of its parts

abbrev pub name_mean : ConstructorName → Meaning
name_mean =
    fold-ConstructorName ClauseMeaning Meaning Meaning GroupMeaning Meaning clause_meaning
    name_meaning form_meaning group_meaning step_meaning

-- of a clause
abbrev pub clause_mean : Clause → ClauseMeaning
clause_mean =
    fold-Clause ClauseMeaning Meaning Meaning GroupMeaning Meaning clause_meaning name_meaning
    form_meaning group_meaning step_meaning

-- of one specification of a group by clause
abbrev pub group_mean : GroupSpec → GroupMeaning
group_mean =
    fold-GroupSpec ClauseMeaning Meaning Meaning GroupMeaning Meaning clause_meaning
    name_meaning form_meaning group_meaning step_meaning

-- of a step
abbrev pub step_mean : Step → Meaning
step_mean =
    fold-Step ClauseMeaning Meaning Meaning GroupMeaning Meaning clause_meaning name_meaning
    form_meaning group_meaning step_meaning

-- # A query

abbrev pub no_variable : Environment
no_variable = λ v. []

-- of a query: no variable is bound and there is no focus
abbrev pub first_frame : List Text → Frame
first_frame addresses = record { env = no_variable; focus = None; addresses = addresses }

-- 2.2.3.2: the result of a query over the documents at these addresses, which are the trees
abbrev pub evaluated : Expr → List Text → List Tree → Outcome (List Item)
evaluated e addresses trees = mean e (first_frame addresses) trees
