-- Short words to write worked rows of plans with: each form, as its meaning from those of its
-- parts.
use Prim.Native.String.{String}
use Rattle.std.specs.Prelude.{ℕ, pos, true, false, List, Some, None, codes}
use Rattle.xq_expressions.specs.declared.operators.AllowingEmpty.TheVariants as allowing
use Rattle.xq_expressions.specs.declared.operators.Sign.{Sign}
use Rattle.xq_expressions.specs.declared.operators.Quantifier.{Quantifier}
use Rattle.xq_expressions.specs.declared.operators.NamedNode.{NamedNode}
use Rattle.xq_expressions.specs.declared.operators.UnnamedNode.{UnnamedNode}
use Rattle.xq_expressions.specs.declared.operators.OrderModifier.{OrderModifier}
use Rattle.xq_trees.specs.declared.Axis.{Axis}
use Rattle.xq_expressions.specs.declared.signatures.Function.{Function}
use Rattle.xq_meaning.specs.declared.joins.Equality.{Equality}
use Rattle.xq_meaning.specs.declared.joins.JoinKey.{JoinKey}
use Rattle.xq_meaning.specs.declared.joins.KeyForm.{KeyForm}
use Rattle.xq_meaning.specs.declared.node_tests.Test.{Test}
use Rattle.xq_meaning.specs.declared.operators.Operator.{Operator}
use Rattle.xq_meaning.specs.declared.plans.Plan.TheOpen.{Plan-F, PlanClause-F, PlanStep-F}
use Rattle.xq_meaning.specs.PlanMeaning.{Meaning, ClauseMeaning, StepMeaning, plan_form, plan_clause, plan_step}
use Rattle.xq_meaning.proofs.Writing.{utf8}

abbrev pub num : ℕ → Meaning
num n = plan_form (Plan-F.Int (pos n))

abbrev pub dec : ℕ → Meaning
dec m = plan_form (Plan-F.Dec (pos m))

abbrev pub txt : String → Meaning
txt s = plan_form (Plan-F.Str (codes s))

abbrev pub txt8 : String → Meaning
txt8 s = plan_form (Plan-F.Str (utf8 s))

abbrev pub slot : ℕ → Meaning
slot n = plan_form (Plan-F.Slot n)

abbrev pub dot : Meaning
dot = plan_form Plan-F.ContextItem

abbrev pub root : Meaning
root = plan_form Plan-F.Root

abbrev pub seq : List Meaning → Meaning
seq parts = plan_form (Plan-F.Sequence parts)

abbrev pub call : Function → List Meaning → Meaning
call function parts = plan_form (Plan-F.Call function parts)

abbrev pub arrow : Meaning → List (Function × List Meaning) → Meaning
arrow first calls = plan_form (Plan-F.Arrow first calls)

abbrev pub mapped : Meaning → List Meaning → Meaning
mapped first parts = plan_form (Plan-F.Map first parts)

abbrev pub op : Operator → Meaning → Operator × Meaning
op operator part = (operator, part)

abbrev pub chain : Meaning → List (Operator × Meaning) → Meaning
chain first rest = plan_form (Plan-F.Chain first rest)

abbrev pub unary : List Sign → Meaning → Meaning
unary signs part = plan_form (Plan-F.Unary signs part)

abbrev pub any_of : List Meaning → Meaning
any_of parts = plan_form (Plan-F.Or parts)

abbrev pub all_of : List Meaning → Meaning
all_of parts = plan_form (Plan-F.And parts)

abbrev pub iff : Meaning → Meaning → Meaning → Meaning
iff part yes' no' = plan_form (Plan-F.If part yes' no')

abbrev pub quantified : Quantifier → List Meaning → Meaning → Meaning
quantified which ranges part = plan_form (Plan-F.Quantified which ranges part)

abbrev pub step : Axis → Test → List Meaning → Meaning
step axis test predicates = plan_form (Plan-F.Step axis test predicates)

abbrev pub filter : Meaning → List Meaning → Meaning
filter part predicates = plan_form (Plan-F.Filter part predicates)

abbrev pub each : Meaning → StepMeaning
each part = plan_step (PlanStep-F.Each part)

abbrev pub scan : Axis → Test → StepMeaning
scan axis test = plan_step (PlanStep-F.Scan axis test)

abbrev pub path : Meaning → List StepMeaning → Meaning
path start steps = plan_form (Plan-F.Path start steps)

abbrev pub named_node : NamedNode → Meaning → Meaning → Meaning
named_node kind name part = plan_form (Plan-F.Named kind name part)

abbrev pub unnamed_node : UnnamedNode → Meaning → Meaning
unnamed_node kind part = plan_form (Plan-F.Unnamed kind part)

abbrev pub flwor : List ClauseMeaning → Meaning → Meaning
flwor clauses part = plan_form (Plan-F.Flwor clauses part)

abbrev pub for_in : Meaning → ClauseMeaning
for_in part = plan_clause (PlanClause-F.For allowing.No false part)

abbrev pub for_at : Meaning → ClauseMeaning
for_at part = plan_clause (PlanClause-F.For allowing.No true part)

abbrev pub for_or_none_at : Meaning → ClauseMeaning
for_or_none_at part = plan_clause (PlanClause-F.For allowing.Yes true part)

abbrev pub key : ℕ → List (Axis × Test) → KeyForm → JoinKey
key slot scans form = record { slot = slot; scans = scans; form = form }

abbrev pub join : Meaning → Equality → JoinKey → JoinKey → ClauseMeaning
join range equality left right =
    plan_clause (PlanClause-F.Join range (record {
      carried = None;
      equality = equality;
      left = left;
      right = right;
    }))

abbrev pub join_from : ℕ → Meaning → Equality → JoinKey → JoinKey → ClauseMeaning
join_from slot range equality left right =
    plan_clause (PlanClause-F.Join range (record {
      carried = Some slot;
      equality = equality;
      left = left;
      right = right;
    }))

abbrev pub group_join : Meaning → Equality → JoinKey → JoinKey → ClauseMeaning
group_join range equality left right =
    plan_clause (PlanClause-F.GroupJoin range (record {
      carried = None;
      equality = equality;
      left = left;
      right = right;
    }))

abbrev pub group_join_from : ℕ → Meaning → Equality → JoinKey → JoinKey → ClauseMeaning
group_join_from slot range equality left right =
    plan_clause (PlanClause-F.GroupJoin range (record {
      carried = Some slot;
      equality = equality;
      left = left;
      right = right;
    }))

abbrev pub numbers : ClauseMeaning
numbers = plan_clause PlanClause-F.Count

abbrev pub let_be : Meaning → ClauseMeaning
let_be part = plan_clause (PlanClause-F.Let part)

abbrev pub group_by : List ℕ → ClauseMeaning
group_by slots = plan_clause (PlanClause-F.Group slots)

abbrev pub where_is : Meaning → ClauseMeaning
where_is part = plan_clause (PlanClause-F.Where part)

abbrev pub by : Meaning → OrderModifier → Meaning × OrderModifier
by part modifier = (part, modifier)

abbrev pub order_by : List (Meaning × OrderModifier) → ClauseMeaning
order_by specs = plan_clause (PlanClause-F.Order specs)
