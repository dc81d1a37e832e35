-- What each form of expression means, from the meanings of its parts. An environment is of any type
-- E: of names or of slots. The sections are those of XQuery 3.1.
use Rattle.std.specs.Prelude.{ℕ, List, [], ◌∷◌, ◌++◌, map, length, Bool, true, false, Option, Some, None, Ok, if◌then◌else◌, slice_index_or, nat_eq}
use Rattle.std.specs.List.{range_with_len, flat_map}
use Rattle.xq_atoms.specs.declared.refusals.Code.TheVariants.{XPTY0019}
use Rattle.xq_expressions.specs.declared.operators.AllowingEmpty.{AllowingEmpty}
use Rattle.xq_expressions.specs.declared.operators.AllowingEmpty.TheVariants as allowing
use Rattle.xq_expressions.specs.declared.operators.Sign.{Sign}
use Rattle.xq_expressions.specs.declared.operators.Quantifier.{Quantifier}
use Rattle.xq_expressions.specs.declared.operators.Quantifier.TheVariants as quantifier
use Rattle.xq_expressions.specs.declared.operators.NamedNode.{NamedNode}
use Rattle.xq_expressions.specs.declared.operators.UnnamedNode.{UnnamedNode}
use Rattle.xq_expressions.specs.declared.operators.OrderModifier.{OrderModifier}
use Rattle.xq_expressions.specs.declared.operators.Direction.{Direction}
use Rattle.xq_expressions.specs.declared.operators.Direction.TheVariants.{Ascending, Descending}
use Rattle.xq_expressions.specs.declared.operators.EmptyOrder.{EmptyOrder}
use Rattle.xq_expressions.specs.declared.operators.EmptyOrder.TheVariants.{Least, Greatest}
use Rattle.xq_trees.specs.declared.Axis.{Axis}
use Rattle.xq_trees.specs.declared.Axis.TheVariants.{DescendantOrSelf}
use Rattle.xq_expressions.specs.declared.signatures.Function.{Function}
use Rattle.xq_meaning.specs.declared.node_tests.Test.{Test}
use Rattle.xq_meaning.specs.declared.node_tests.Test.TheVariants.{Any}
use Rattle.xq_meaning.specs.declared.operators.Operator.{Operator}
use Rattle.xq_atoms.specs.Judged.{Judged}
use Rattle.xq_atoms.specs.Text.{Text}
use Rattle.xq_atoms.specs.Atom.{Atomic}
use Rattle.xq_trees.specs.Tree.{Tree}
use Rattle.xq_trees.specs.Tuples.{Tuple, OrderRule, expanded, numbered, bound, satisfying, grouped, ordered, firsts, value_at}
use Rattle.xq_meaning.specs.Items.{Item, Node, Atom, root_of, atomized}
use Rattle.xq_meaning.specs.Arguments.{atomic, boolean, effective, all_nodes}
use Rattle.xq_meaning.specs.Functions.{Focus, called}
use Rattle.xq_meaning.specs.Operators.{operated, signed, gathered, in_order, keeps}
use Rattle.xq_meaning.specs.Content.{name_of, named_tree, unnamed_tree}
use Rattle.xq_meaning.specs.Steps.{focuses, context_item, context_node, axis_nodes, in_axis_order, document_root}
use Rattle.xq_meaning.specs.Doing.{Doing, ◌>>=◌, give, judged, on_trees, in_turn, for_each, collected, first_that}

-- 2.1: the values of the variables, the focus, and the addresses of the documents, which are the
-- first trees
pub record Frame (E : Type 0) : Type 0 where
  pub env : E
  pub focus : Option Focus
  pub addresses : List Text

-- what a form means: in a frame, the evaluation of a sequence of items
abbrev pub Meaning : Type 0 → Type 0
Meaning E = Frame E → Doing (List Item)

-- 3.9.3: a new tree stands at the end of the others; what it gives is its root
abbrev pub planted : Tree → Doing (List Item)
planted tree trees = (Ok (Node (root_of (length trees)) ∷ []), trees ++ tree ∷ [])

-- the same where there is a tree; else nothing is built, and it gives ()
abbrev pub planted_if : Option Tree → Doing (List Item)
planted_if None = give []
planted_if (Some tree) = planted tree

-- the element alone where it is kept, else none
abbrev pub kept_if : {A : Type 0} → A → Bool → List A
kept_if x keep = if keep then x ∷ [] else []

-- 3.12.2: whether a tuple stays where its sequence is empty
abbrev pub allows : AllowingEmpty → Bool
allows allowing.No = false
allows allowing.Yes = true

-- 3.12.8: how a modifier orders
abbrev pub is_descending : Direction → Bool
is_descending Ascending = false
is_descending Descending = true

-- whether an empty key counts as the greatest
abbrev pub is_greatest : EmptyOrder → Bool
is_greatest Least = false
is_greatest Greatest = true

-- the rule by which keys with this modifier are ordered
abbrev pub rule_of : OrderModifier → OrderRule
rule_of modifier =
    record { descending = is_descending modifier.direction; greatest = is_greatest modifier.empty }

-- from the keys of each tuple, those of each of so many specifications
abbrev pub key_columns : {A : Type 0} → ℕ → List (List (List A)) → List (List (List A))
key_columns n rows = map (λ i. map (λ row. slice_index_or row i []) rows) (range_with_len 0 n)

-- 3.3: the nodes on the axis from all these nodes, in document order, each once
abbrev pub scan : Axis → Test → List Item → Doing (List Item)
scan axis test xs = do
  places ← judged (all_nodes XPTY0019 xs)
  on_trees (λ trees. Ok (in_order trees (flat_map (axis_nodes trees axis test) places)))

-- 3.16: the answer at which a quantifier stops
abbrev pub deciding : Quantifier → Bool
deciding quantifier.Some = true
deciding quantifier.Every = false

-- a variable of a quantified expression, by the environment with its value, and what it ranges over
abbrev pub Binding : Type 0 → Type 0
Binding E = (E → List Item → E) × Meaning E

module _ {E : Type 0} where
  -- the frame with this focus instead of its own
  abbrev pub in_focus : Frame E → Focus → Frame E
  in_focus frame focus = record frame { focus = Some focus }

  -- the frame with this environment instead of its own
  abbrev pub in_env : Frame E → E → Frame E
  in_env frame env = record frame { env = env }

  -- 2.4.2: a value, atomized
  abbrev pub atoms_of : Meaning E → Frame E → Doing (List Atomic)
  atoms_of part frame = do
    xs ← part frame
    on_trees (λ trees. Ok (atomized trees xs))

  -- 2.4.3: a value, as a truth
  abbrev pub tested : Meaning E → Frame E → Doing Bool
  tested part frame = do
    xs ← part frame
    judged (effective xs)

  -- # 3.1: primary expressions

  -- 3.1.1
  abbrev pub literal : Atomic → Meaning E
  literal a frame = give (atomic a)

  -- 3.1.4
  abbrev pub context : Meaning E
  context frame = judged (context_item frame.focus)

  -- 3.1.5: all arguments are evaluated from left to right, and then converted
  abbrev pub call : Function → List (Meaning E) → Meaning E
  call function parts frame = do
    values ← for_each (λ part. part frame) parts
    on_trees (λ trees. called function trees frame.addresses frame.focus values)

  -- # 3.20: arrows, which group to the left: a call, whose first argument is what stands before it,
  -- which is evaluated first

  abbrev pub next_call : Frame E → List Item → Function × List (Meaning E) → Doing (List Item)
  next_call frame xs (function, parts) = do
    values ← for_each (λ part. part frame) parts
    on_trees (λ trees. called function trees frame.addresses frame.focus (xs ∷ values))

  -- a first value, and then the calls, one after another
  abbrev pub arrow : Meaning E → List (Function × List (Meaning E)) → Meaning E
  arrow first calls frame = do
    xs ← first frame
    in_turn (next_call frame) xs calls

  -- # 3.4.1: a sequence, one part after another
  abbrev pub sequence : List (Meaning E) → Meaning E
  sequence parts frame = collected (λ part. part frame) parts

  -- # 3.4 to 3.7: operators, which group to the left. Each evaluates its right operand, and then
  -- judges both

  abbrev pub next_operand : Frame E → List Item → Operator × Meaning E → Doing (List Item)
  next_operand frame xs (operator, part) = do
    ys ← part frame
    on_trees (λ trees. operated operator trees xs ys)

  -- a first operand, and then each operator with its right operand, from left to right
  abbrev pub chain : Meaning E → List (Operator × Meaning E) → Meaning E
  chain first rest frame = do
    xs ← first frame
    in_turn (next_operand frame) xs rest

  -- 3.5: signs
  abbrev pub unary : List Sign → Meaning E → Meaning E
  unary signs part frame = do
    values ← atoms_of part frame
    judged (signed signs values)

  -- # 3.8: logical expressions, up to the first operand that decides

  abbrev pub or : List (Meaning E) → Meaning E
  or parts frame = do
    answer ← first_that true (λ part. tested part frame) parts
    give (boolean answer)

  -- false at the first operand that is false, and true where there is none
  abbrev pub and : List (Meaning E) → Meaning E
  and parts frame = do
    answer ← first_that false (λ part. tested part frame) parts
    give (boolean answer)

  -- # 3.14: conditional expressions; one branch of each is evaluated

  abbrev pub chosen : Bool → Meaning E → Meaning E → Meaning E
  chosen true yes' no' = yes'
  chosen false yes' no' = no'

  -- if, then, else: by the effective boolean value of the test
  abbrev pub conditional : Meaning E → Meaning E → Meaning E → Meaning E
  conditional test yes' no' frame = do
    answer ← tested test frame
    chosen answer yes' no' frame

  -- # 3.2.1 and 3.3.3: predicates

  abbrev pub passed : Meaning E → Frame E → Focus → Doing (List Item)
  passed predicate frame focus = do
    value ← predicate (in_focus frame focus)
    keep ← judged (keeps focus.position value)
    give (kept_if focus.item keep)

  -- the items that a predicate keeps, tried in order
  abbrev pub filtered : Frame E → List Item → Meaning E → Doing (List Item)
  filtered frame xs predicate = collected (passed predicate frame) (focuses xs)

  -- each predicate on what the one before kept
  abbrev pub filter_of : Meaning E → List (Meaning E) → Meaning E
  filter_of start predicates frame = do
    xs ← start frame
    in_turn (filtered frame) xs predicates

  -- # 3.3.2: steps. Predicates count in axis order; the result is in document order
  abbrev pub step : Axis → Test → List (Meaning E) → Meaning E
  step axis test predicates frame = do
    p ← judged (context_node frame.focus)
    xs ← on_trees (λ trees. Ok (map Node (in_axis_order axis (axis_nodes trees axis test p))))
    ys ← in_turn (filtered frame) xs predicates
    give (in_axis_order axis ys)

  -- # 3.3: paths

  -- E1/E2: E2 for each node of E1
  abbrev pub slash : Frame E → List Item → Meaning E → Doing (List Item)
  slash frame xs part = do
    _ ← judged (all_nodes XPTY0019 xs)
    ys ← collected (λ focus. part (in_focus frame focus)) (focuses xs)
    on_trees (λ trees. gathered trees ys)

  -- a path: from what a start gives, one part after another by `/`
  abbrev pub path : Meaning E → List (Meaning E) → Meaning E
  path start parts frame = do
    xs ← start frame
    in_turn (slash frame) xs parts

  -- # 3.19: simple maps

  -- E1 ! E2: E2 for each item of E1, and all that it gives, as it is
  abbrev pub bang : Frame E → List Item → Meaning E → Doing (List Item)
  bang frame xs part = collected (λ focus. part (in_focus frame focus)) (focuses xs)

  -- from what a start gives, one part after another by `!`
  abbrev pub simple_map : Meaning E → List (Meaning E) → Meaning E
  simple_map start parts frame = do
    xs ← start frame
    in_turn (bang frame) xs parts

  -- # 3.3: paths from a root

  -- a leading /
  abbrev pub root : Meaning E
  root frame = do
    p ← judged (context_node frame.focus)
    on_trees (λ trees. document_root trees p)

  -- 3.3.5: descendant-or-self::node(), which // stands for
  abbrev pub self_and_below : Meaning E
  self_and_below = step DescendantOrSelf Any []

  -- # 3.9.3: computed constructors

  -- the name is judged before the content is evaluated
  abbrev pub named_node : NamedNode → Meaning E → Meaning E → Meaning E
  named_node kind name part frame = do
    values ← atoms_of name frame
    good ← judged (name_of kind values)
    xs ← part frame
    tree ← on_trees (λ trees. named_tree kind good trees xs)
    planted tree

  -- a document, text or comment node; a text constructor may give ()
  abbrev pub unnamed_node : UnnamedNode → Meaning E → Meaning E
  unnamed_node kind part frame = do
    xs ← part frame
    tree ← on_trees (λ trees. unnamed_tree kind trees xs)
    planted_if tree

  -- # 3.16: quantified expressions, up to the first value that decides

  -- whether the test gives the wanted answer for some values of the variables, the later ones for
  -- each of the earlier ones
  abbrev pub satisfied : Bool → List (Binding E) → Meaning E → Frame E → Doing Bool
  satisfied wanted [] test frame = tested test frame
  satisfied wanted ((bind, part) ∷ bindings) test frame = do
    xs ← part frame
    first_that wanted (λ x. satisfied wanted bindings test (in_env frame (bind frame.env (x ∷
        [])))) xs

  -- whether some values of the variables pass the test, or every one does
  abbrev pub quantified : Quantifier → List (Binding E) → Meaning E → Meaning E
  quantified which bindings test frame = do
    answer ← satisfied (deciding which) bindings test frame
    give (boolean answer)

  -- # 3.12: the clauses of a FLWOR expression, each for all tuples; `frame_at` is the frame of a
  -- tuple

  -- 3.12.2
  abbrev pub for_tuples : AllowingEmpty → Bool → Meaning E → (Tuple Item → Frame E) →
      List (Tuple Item) → Doing (List (Tuple Item))
  for_tuples empties at part frame_at tuples = do
    lists ← for_each (λ t. part (frame_at t)) tuples
    give (expanded Atom (allows empties) at tuples lists)

  -- 3.12.3
  abbrev pub let_tuples : Meaning E → (Tuple Item → Frame E) → List (Tuple Item) →
      Doing (List (Tuple Item))
  let_tuples part frame_at tuples = do
    values ← for_each (λ t. part (frame_at t)) tuples
    give (bound tuples values)

  -- 3.12.5
  abbrev pub where_tuples : Meaning E → (Tuple Item → Frame E) → List (Tuple Item) →
      Doing (List (Tuple Item))
  where_tuples part frame_at tuples = do
    tests ← for_each (λ t. tested part (frame_at t)) tuples
    give (satisfying tuples tests)

  -- the rule of each specification of an order by clause
  abbrev pub rules_of : List (Meaning E × OrderModifier) → List OrderRule
  rules_of specs = map (λ (part, modifier). rule_of modifier) specs

  -- 3.12.8: all keys of a tuple, tuple by tuple, are evaluated and atomized, and then judged
  abbrev pub order_tuples : List (Meaning E × OrderModifier) → (Tuple Item → Frame E) →
      List (Tuple Item) → Doing (List (Tuple Item))
  order_tuples specs frame_at tuples = do
    keys ← for_each (λ t. for_each (λ (part, modifier). atoms_of part (frame_at t)) specs) tuples
    judged (ordered (rules_of specs) tuples (key_columns (length specs) keys))

  -- 3.12.9
  abbrev pub return_of : Meaning E → (Tuple Item → Frame E) → List (Tuple Item) → Doing (List Item)
  return_of part frame_at tuples = collected (λ t. part (frame_at t)) tuples

-- 3.12.6
abbrev pub count_tuples : List (Tuple Item) → Doing (List (Tuple Item))
count_tuples tuples = give (numbered Atom tuples)

-- 3.12.7: by the values of these slots, atomized

abbrev pub slot_values : List Tree → List (Tuple Item) → ℕ → List (List Atomic)
slot_values trees tuples slot = map (λ t. atomized trees (value_at slot t)) tuples

-- one tuple for each group of tuples with equal keys in these slots
abbrev pub group_by_slots : List Tree → List ℕ → List (Tuple Item) → Judged (List (Tuple Item))
group_by_slots trees slots tuples =
    grouped Atom slots tuples (map (slot_values trees tuples) slots)

-- a slot that is named twice counts once
abbrev pub group_tuples : List ℕ → List (Tuple Item) → Doing (List (Tuple Item))
group_tuples slots tuples = on_trees (λ trees. group_by_slots trees (firsts nat_eq slots) tuples)
