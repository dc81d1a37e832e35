-- Short words to write worked rows of normal forms with: each form, as its meaning from those of
-- its parts.
use Prim.Native.String.{String}
use Rattle.std.specs.Prelude.{ℕ, pos, List, Some, None, codes}
use Rattle.xq_expressions.specs.declared.operators.AllowingEmpty.TheVariants as allowing
use Rattle.xq_expressions.specs.declared.operators.Sign.{Sign}
use Rattle.xq_expressions.specs.declared.operators.Quantifier.{Quantifier}
use Rattle.xq_expressions.specs.declared.operators.NamedNode.{NamedNode}
use Rattle.xq_expressions.specs.declared.operators.UnnamedNode.{UnnamedNode}
use Rattle.xq_expressions.specs.declared.operators.OrderModifier.{OrderModifier}
use Rattle.xq_trees.specs.declared.Axis.{Axis}
use Rattle.xq_expressions.specs.declared.signatures.Function.{Function}
use Rattle.xq_meaning.specs.declared.node_tests.Test.{Test}
use Rattle.xq_meaning.specs.declared.operators.Operator.{Operator}
use Rattle.xq_meaning.specs.declared.normal_forms.Core.TheOpen.{Core-F, CoreClause-F}
use Rattle.xq_atoms.specs.Text.{Text}
use Rattle.xq_meaning.specs.Meaning.{Meaning, ClauseMeaning}
use Rattle.xq_meaning.specs.CoreMeaning.{core_form, core_clause}
use Rattle.xq_meaning.proofs.Writing.{utf8}

abbrev pub num : ℕ → Meaning
num n = core_form (Core-F.Int (pos n))

abbrev pub dec : ℕ → Meaning
dec m = core_form (Core-F.Dec (pos m))

abbrev pub txt : String → Meaning
txt s = core_form (Core-F.Str (codes s))

abbrev pub txt8 : String → Meaning
txt8 s = core_form (Core-F.Str (utf8 s))

abbrev pub var : String → Meaning
var s = core_form (Core-F.Variable (codes s))

abbrev pub dot : Meaning
dot = core_form Core-F.ContextItem

abbrev pub root : Meaning
root = core_form Core-F.Root

abbrev pub seq : List Meaning → Meaning
seq parts = core_form (Core-F.Sequence parts)

abbrev pub call : Function → List Meaning → Meaning
call function parts = core_form (Core-F.Call function parts)

abbrev pub arrow : Meaning → List (Function × List Meaning) → Meaning
arrow first calls = core_form (Core-F.Arrow first calls)

abbrev pub mapped : Meaning → List Meaning → Meaning
mapped first parts = core_form (Core-F.Map first parts)

abbrev pub op : Operator → Meaning → Operator × Meaning
op operator part = (operator, part)

abbrev pub chain : Meaning → List (Operator × Meaning) → Meaning
chain first rest = core_form (Core-F.Chain first rest)

abbrev pub unary : List Sign → Meaning → Meaning
unary signs part = core_form (Core-F.Unary signs part)

abbrev pub any_of : List Meaning → Meaning
any_of parts = core_form (Core-F.Or parts)

abbrev pub all_of : List Meaning → Meaning
all_of parts = core_form (Core-F.And parts)

abbrev pub iff : Meaning → Meaning → Meaning → Meaning
iff part yes' no' = core_form (Core-F.If part yes' no')

abbrev pub be : String → Meaning → Text × Meaning
be s part = (codes s, part)

abbrev pub quantified : Quantifier → List (Text × Meaning) → Meaning → Meaning
quantified which bindings part = core_form (Core-F.Quantified which bindings part)

abbrev pub step : Axis → Test → List Meaning → Meaning
step axis test predicates = core_form (Core-F.Step axis test predicates)

abbrev pub filter : Meaning → List Meaning → Meaning
filter part predicates = core_form (Core-F.Filter part predicates)

abbrev pub path : Meaning → List Meaning → Meaning
path start parts = core_form (Core-F.Path start parts)

abbrev pub named_node : NamedNode → Meaning → Meaning → Meaning
named_node kind name part = core_form (Core-F.Named kind name part)

abbrev pub unnamed_node : UnnamedNode → Meaning → Meaning
unnamed_node kind part = core_form (Core-F.Unnamed kind part)

abbrev pub flwor : List ClauseMeaning → Meaning → Meaning
flwor clauses part = core_form (Core-F.Flwor clauses part)

abbrev pub for_in : String → Meaning → ClauseMeaning
for_in s part = core_clause (CoreClause-F.For (codes s) allowing.No None part)

abbrev pub for_at : String → String → Meaning → ClauseMeaning
for_at s p part = core_clause (CoreClause-F.For (codes s) allowing.No (Some (codes p)) part)

abbrev pub for_or_none_at : String → String → Meaning → ClauseMeaning
for_or_none_at s p part =
    core_clause (CoreClause-F.For (codes s) allowing.Yes (Some (codes p)) part)

abbrev pub count_as : String → ClauseMeaning
count_as s = core_clause (CoreClause-F.Count (codes s))

abbrev pub let_be : String → Meaning → ClauseMeaning
let_be s part = core_clause (CoreClause-F.Let (codes s) part)

abbrev pub group_by : List Text → ClauseMeaning
group_by vs = core_clause (CoreClause-F.Group vs)

abbrev pub where_is : Meaning → ClauseMeaning
where_is part = core_clause (CoreClause-F.Where part)

abbrev pub by : Meaning → OrderModifier → Meaning × OrderModifier
by part modifier = (part, modifier)

abbrev pub order_by : List (Meaning × OrderModifier) → ClauseMeaning
order_by specs = core_clause (CoreClause-F.Order specs)
