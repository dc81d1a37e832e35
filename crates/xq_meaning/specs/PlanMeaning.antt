-- What a plan means, over numbered slots: one line a form.
use Rattle.std.specs.Prelude.{ℕ, List, [], ◌∷◌, ◌++◌, map, false, Option, Some, None, Ok}
use Rattle.xq_expressions.specs.declared.operators.AllowingEmpty.TheVariants as allowing
use Rattle.xq_expressions.specs.declared.operators.ComparisonOperator.TheVariants as comparing
use Rattle.xq_expressions.specs.declared.operators.Relation.TheVariants as relation
use Rattle.xq_meaning.specs.declared.joins.Equality.{Equality}
use Rattle.xq_meaning.specs.declared.joins.Equality.TheVariants as equality
use Rattle.xq_meaning.specs.declared.joins.Join.{Join}
use Rattle.xq_meaning.specs.declared.joins.JoinKey.{JoinKey}
use Rattle.xq_meaning.specs.declared.joins.KeyForm.{KeyForm}
use Rattle.xq_meaning.specs.declared.joins.KeyForm.TheVariants as key_form
use Rattle.xq_meaning.specs.declared.operators.Operator.{Operator}
use Rattle.xq_meaning.specs.declared.operators.Operator.TheVariants as operator
use Rattle.xq_meaning.specs.declared.plans.Plan.{Plan, fold-Plan}
use Rattle.xq_meaning.specs.declared.plans.PlanClause.{PlanClause, fold-PlanClause}
use Rattle.xq_meaning.specs.declared.plans.PlanStep.{PlanStep, fold-PlanStep}
use Rattle.xq_meaning.specs.declared.plans.Plan.TheOpen.{Plan-F, PlanClause-F, PlanStep-F}
use Rattle.xq_atoms.specs.Atom.{Integer, Decimal, String}
use Rattle.xq_trees.specs.Tuples.{Tuple, value_at, bound}
use Rattle.xq_meaning.specs.Items.{Item, Atom, atomized}
use Rattle.xq_meaning.specs.Doing.{Doing, ◌>>=◌, give, refuse, on_trees, in_turn, for_each, collected}
use Rattle.xq_meaning.specs.Forms
use Rattle.xq_meaning.specs.Functions as Functions

-- the values of the slots that are open
abbrev pub Slots : Type 0
Slots = Tuple Item

-- a frame in which the variables are slots
abbrev pub Frame : Type 0
Frame = Forms.Frame Slots

-- what a plan means in such a frame
abbrev pub Meaning : Type 0
Meaning = Forms.Meaning Slots

-- a clause leads from tuples to tuples, a step from items to items
abbrev pub ClauseMeaning : Type 0
ClauseMeaning = Frame → List (Tuple Item) → Doing (List (Tuple Item))

-- a step leads from items to items
abbrev pub StepMeaning : Type 0
StepMeaning = Frame → List Item → Doing (List Item)

-- the value of the slot with this number, from 0; () where none has it
abbrev pub slot : ℕ → Meaning
slot n frame = give (value_at n frame.env)

-- a value in the next slot
abbrev pub opened : Slots → List Item → Slots
opened slots xs = slots ++ xs ∷ []

-- the slots of a tuple come after those outside
abbrev pub at_tuple : Frame → Tuple Item → Frame
at_tuple frame tuple = record frame { env = frame.env ++ tuple }

-- a clause over the tuples that the clause before it gave
abbrev pub next_clause : Frame → List (Tuple Item) → ClauseMeaning → Doing (List (Tuple Item))
next_clause frame tuples clause = clause frame tuples

-- each clause for all tuples before the next, from one tuple without slots, and then the return
abbrev pub flwor : List ClauseMeaning → Meaning → Meaning
flwor clauses part frame = do
  tuples ← in_turn (next_clause frame) ([] ∷ []) clauses
  Forms.return_of part (at_tuple frame) tuples

-- a step from the items that the step before it gave
abbrev pub next_step : Frame → List Item → StepMeaning → Doing (List Item)
next_step frame xs step = step frame xs

-- a path: from what a start gives, one step after another
abbrev pub path : Meaning → List StepMeaning → Meaning
path start steps frame = do
  xs ← start frame
  in_turn (next_step frame) xs steps

-- a step: a part for each of the nodes, or a scan from all of them at once
abbrev pub plan_step : PlanStep-F Meaning ClauseMeaning StepMeaning → StepMeaning
plan_step (PlanStep-F.Each part) frame xs = Forms.slash frame xs part
plan_step (PlanStep-F.Scan axis test) frame xs = Forms.scan axis test xs

-- # Joins: a `for` and a `where` after it, which compares two keys for equality

-- the operator that compares
abbrev pub comparison : Equality → Operator
comparison equality.General = operator.Comparison (comparing.General relation.Equal)
comparison equality.Value = operator.Comparison (comparing.Value relation.Equal)

-- what is taken of the items that a key leads to: F&O 3.1, 2.3 and 2.4
abbrev pub formed : KeyForm → List Item → Doing (List Item)
formed key_form.Value xs = give xs
formed key_form.Data xs = on_trees (λ trees. Ok (map Atom (atomized trees xs)))
formed key_form.String xs = on_trees (λ trees. Functions.string trees xs)

-- a key, from the value of its slot
abbrev pub key_from : JoinKey → List Item → Doing (List Item)
key_from key xs = do
  ys ← in_turn (λ zs (axis, test). Forms.scan axis test zs) xs key.scans
  formed key.form ys

-- and in a frame
abbrev pub key_mean : JoinKey → Meaning
key_mean key frame = key_from key (value_at key.slot frame.env)

-- the comparison of both keys, the left one first
abbrev pub keys_equal : Join → Meaning
keys_equal join =
    Forms.chain (key_mean join.left) ((comparison join.equality, key_mean join.right) ∷ [])

-- the slot that the range reads, of those that are open at a tuple
abbrev pub carried : Option ℕ → Slots → Tuple Item
carried None slots = []
carried (Some n) slots = value_at n slots ∷ []

-- the frame of the range at a tuple: no other slot of the tuple is open there
abbrev pub at_carried : Join → Frame → Tuple Item → Frame
at_carried join frame tuple = at_tuple frame (carried join.carried (frame.env ++ tuple))

-- each tuple with each item of the range, and those of them whose keys are equal
abbrev pub join_tuples : Meaning → Join → ClauseMeaning
join_tuples range join frame tuples = do
  found ← Forms.for_tuples allowing.No false range (at_carried join frame) tuples
  Forms.where_tuples (keys_equal join) (at_tuple frame) found

-- # Group joins: a `let` of the items that a `for` and such a `where` keep

-- 3.12.5: the item, where with it in the next slot the keys are equal
abbrev pub if_equal : Join → Frame → Tuple Item → Item → Doing (List Item)
if_equal join frame tuple x = do
  keep ← Forms.tested (keys_equal join) (at_tuple frame (opened tuple (x ∷ [])))
  give (Forms.kept_if x keep)

-- those of the items of the range at a tuple
abbrev pub equal_items : Meaning → Join → Frame → Tuple Item → Doing (List Item)
equal_items range join frame tuple = do
  xs ← range (at_carried join frame tuple)
  collected (if_equal join frame tuple) xs

-- 3.12.3: each tuple with these items
abbrev pub group_join_tuples : Meaning → Join → ClauseMeaning
group_join_tuples range join frame tuples = do
  lists ← for_each (equal_items range join frame) tuples
  give (bound tuples lists)

-- a clause, from the meanings of its parts
abbrev pub plan_clause : PlanClause-F Meaning ClauseMeaning StepMeaning → ClauseMeaning
plan_clause (PlanClause-F.For empties at part) frame =
    Forms.for_tuples empties at part (at_tuple frame)
plan_clause (PlanClause-F.Join range join) frame = join_tuples range join frame
plan_clause (PlanClause-F.GroupJoin range join) frame = group_join_tuples range join frame
plan_clause (PlanClause-F.Let part) frame = Forms.let_tuples part (at_tuple frame)
plan_clause (PlanClause-F.Where part) frame = Forms.where_tuples part (at_tuple frame)
plan_clause (PlanClause-F.Group slots) frame = Forms.group_tuples slots
plan_clause (PlanClause-F.Order specs) frame = Forms.order_tuples specs (at_tuple frame)
plan_clause PlanClause-F.Count frame = Forms.count_tuples
plan_clause (PlanClause-F.Refused code) frame = λ tuples. refuse code

-- a form, from the meanings of its parts
abbrev pub plan_form : Plan-F Meaning ClauseMeaning StepMeaning → Meaning
plan_form (Plan-F.Int n) = Forms.literal (Integer n)
plan_form (Plan-F.Dec m) = Forms.literal (Decimal m)
plan_form (Plan-F.Str t) = Forms.literal (String t)
plan_form (Plan-F.Slot n) = slot n
plan_form Plan-F.ContextItem = Forms.context
plan_form (Plan-F.Call function parts) = Forms.call function parts
plan_form (Plan-F.Arrow first calls) = Forms.arrow first calls
plan_form (Plan-F.Map start parts) = Forms.simple_map start parts
plan_form (Plan-F.Sequence parts) = Forms.sequence parts
plan_form (Plan-F.Chain first rest) = Forms.chain first rest
plan_form (Plan-F.Unary signs part) = Forms.unary signs part
plan_form (Plan-F.Or parts) = Forms.or parts
plan_form (Plan-F.And parts) = Forms.and parts
plan_form Plan-F.Root = Forms.root
plan_form (Plan-F.Path start steps) = path start steps
plan_form (Plan-F.Step axis test predicates) = Forms.step axis test predicates
plan_form (Plan-F.Filter start predicates) = Forms.filter_of start predicates
plan_form (Plan-F.Named kind name part) = Forms.named_node kind name part
plan_form (Plan-F.Unnamed kind part) = Forms.unnamed_node kind part
plan_form (Plan-F.Flwor clauses part) = flwor clauses part
plan_form (Plan-F.If part yes' no') = Forms.conditional part yes' no'
plan_form (Plan-F.Quantified which ranges part) =
    Forms.quantified which (map (λ range. (opened, range)) ranges) part

-- the meaning of a plan in a frame
abbrev pub plan_mean : Plan → Meaning
plan_mean = fold-Plan Meaning ClauseMeaning StepMeaning plan_form plan_clause plan_step

-- and of a clause
abbrev pub plan_clause_mean : PlanClause → ClauseMeaning
plan_clause_mean = fold-PlanClause Meaning ClauseMeaning StepMeaning plan_form plan_clause plan_step

-- and of a step
abbrev pub plan_step_mean : PlanStep → StepMeaning
plan_step_mean = fold-PlanStep Meaning ClauseMeaning StepMeaning plan_form plan_clause plan_step
