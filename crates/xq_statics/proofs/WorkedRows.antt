-- Worked rows of the static faults, computed: a query is written by the layers of its forms.
use Rattle.std.proofs.Common.{◌≡◌, pos, List, [], ◌∷◌, Option, Some, None, codes, refl}
use Rattle.xq_atoms.specs.declared.refusals.Code.{Code}
use Rattle.xq_atoms.specs.declared.refusals.Code.TheVariants.{XPST0008, XPST0017, XQST0089, XQST0094, ProfPrefix, ProfType}
use Rattle.xq_atoms.specs.Text.{Text}
use Rattle.xq_expressions.specs.declared.names.QName.{QName}
use Rattle.xq_expressions.specs.declared.operators.AllowingEmpty.TheVariants as allowing
use Rattle.xq_expressions.specs.declared.operators.NamedNode.TheVariants.{Element}
use Rattle.xq_expressions.specs.declared.operators.ProductOperator.TheVariants.{Div}
use Rattle.xq_expressions.specs.declared.operators.Quantifier.TheVariants.{Some as SomeOf}
use Rattle.xq_expressions.specs.declared.operators.Sign.TheVariants.{Plus}
use Rattle.xq_expressions.specs.declared.expressions.Clause.TheOpen.{Clause-F, ConstructorName-F, Expr-F, GroupSpec-F}
use Rattle.xq_statics.specs.Faults.{first_fault}
use Rattle.xq_statics.specs.Statics.{Places, Binding, form_places, clause_binding, group_binding, name_places}

abbrev answer : Places → Option Code
answer query = first_fault (query [])

abbrev bare : Text → QName
bare local = record { prefix = None; local = local }

abbrev prefixed : Text → Text → QName
prefixed prefix local = record { prefix = Some prefix; local = local }

abbrev one : Places
one = form_places (Expr-F.Int (pos 1))

abbrev var : Text → Places
var local = form_places (Expr-F.«Expr::Variable» (bare local))

abbrev both : Places → Places → Places
both left right = form_places (Expr-F.Sequence (left ∷ right ∷ []))

abbrev call : QName → List Places → Places
call name arguments = form_places (Expr-F.Call name arguments)

abbrev flwor : List Binding → Places → Places
flwor clauses part = form_places (Expr-F.Flwor clauses part)

abbrev for_in : Text → Places → Binding
for_in local part = clause_binding (Clause-F.For ((bare local, allowing.No, None, part) ∷ []))

abbrev for_at : Text → Text → Places → Binding
for_at local at part = clause_binding (Clause-F.For ((bare local, allowing.No, Some (bare at), part) ∷ []))

abbrev for_or_empty_at : Text → Text → Places → Binding
for_or_empty_at local at part = clause_binding (Clause-F.For ((bare local, allowing.Yes, Some (bare at), part) ∷ []))

abbrev count_as : Text → Binding
count_as local = clause_binding (Clause-F.Count (bare local))

abbrev arrow : Places → List (QName × List Places) → Places
arrow first calls = form_places (Expr-F.Arrow first calls)

abbrev let_be : Text → Places → Binding
let_be local part = clause_binding (Clause-F.Let ((bare local, part) ∷ []))

abbrev group_by : List Binding → Binding
group_by specs = clause_binding (Clause-F.Group specs)

abbrev spec : Text → Binding
spec local = group_binding (GroupSpec-F.«GroupSpec::Variable» (bare local))

abbrev spec_be : Text → Places → Binding
spec_be local part = group_binding (GroupSpec-F.Assigned (bare local) part)

abbrev x : Text
x = codes "x"

abbrev y : Text
y = codes "y"

abbrev q : Text
q = codes "q"

abbrev k : Text
k = codes "k"

-- ---- two faults: the first in the text answers

-- 1 div 0, $q
division_first : answer (both (form_places (Expr-F.Product one ((Div, one) ∷ []))) (var q)) ≡ Some XPST0008
division_first = refl

-- count(1, 2), $q
call_first : answer (both (call (bare (codes "count")) (one ∷ one ∷ [])) (var q)) ≡ Some XPST0017
call_first = refl

-- $q, count(1, 2)
variable_first : answer (both (var q) (call (bare (codes "count")) (one ∷ one ∷ []))) ≡ Some XPST0008
variable_first = refl

-- count($q, 2)
name_before_arguments : answer (call (bare (codes "count")) (var q ∷ one ∷ [])) ≡ Some XPST0017
name_before_arguments = refl

-- 1 + $q
unbound : answer (form_places (Expr-F.Sum one ((Plus, var q) ∷ []))) ≡ Some XPST0008
unbound = refl

-- ---- names

-- my:f(), xs:double(1), xs:integer(1), fn:count(1), concat(1), element p:a {1}
other_prefix : answer (call (prefixed (codes "my") (codes "f")) []) ≡ Some ProfPrefix
other_prefix = refl

other_type : answer (call (prefixed (codes "xs") (codes "double")) (one ∷ [])) ≡ Some ProfType
other_type = refl

type_integer : answer (call (prefixed (codes "xs") (codes "integer")) (one ∷ [])) ≡ None
type_integer = refl

count_of_one : answer (call (prefixed (codes "fn") (codes "count")) (one ∷ [])) ≡ None
count_of_one = refl

concat_of_one : answer (call (bare (codes "concat")) (one ∷ [])) ≡ Some XPST0017
concat_of_one = refl

prefixed_element : answer (form_places (Expr-F.Named Element (name_places (ConstructorName-F.Literal (prefixed (codes "p") (codes "a")))) one)) ≡ Some ProfPrefix
prefixed_element = refl

-- ---- arrows and maps

-- 1 => count(), 1 => position(), 1 => concat("x"), "x" => my:f(), 1 => xs:integer()
count_after : answer (arrow one ((bare (codes "count"), []) ∷ [])) ≡ None
count_after = refl

position_after : answer (arrow one ((bare (codes "position"), []) ∷ [])) ≡ Some XPST0017
position_after = refl

concat_after : answer (arrow one ((bare (codes "concat"), one ∷ []) ∷ [])) ≡ None
concat_after = refl

prefix_after : answer (arrow one ((prefixed (codes "my") (codes "f"), []) ∷ [])) ≡ Some ProfPrefix
prefix_after = refl

integer_after : answer (arrow one ((prefixed (codes "xs") (codes "integer"), []) ∷ [])) ≡ None
integer_after = refl

-- $q => position(): what stands before the arrow comes first
first_before_the_call : answer (arrow (var q) ((bare (codes "position"), []) ∷ [])) ≡ Some XPST0008
first_before_the_call = refl

-- 1 => position($q), 1 => abs() => abs(1)
name_before_its_arguments : answer (arrow one ((bare (codes "position"), var q ∷ []) ∷ [])) ≡ Some XPST0017
name_before_its_arguments = refl

second_call : answer (arrow one ((bare (codes "abs"), []) ∷ (bare (codes "abs"), one ∷ []) ∷ [])) ≡ Some XPST0017
second_call = refl

-- 1 ! $q
unbound_in_a_map : answer (form_places (Expr-F.Map one (var q ∷ []))) ≡ Some XPST0008
unbound_in_a_map = refl

-- ---- scopes

-- for $x at $x in 1 return $x
same_position : answer (flwor (for_at x x one ∷ []) (var x)) ≡ Some XQST0089
same_position = refl

-- for $x at $y in 1 return ($x, $y)
in_scope : answer (flwor (for_at x y one ∷ []) (both (var x) (var y))) ≡ None
in_scope = refl

-- for $x in $x return 1
not_in_its_sequence : answer (flwor (for_in x (var x) ∷ []) one) ≡ Some XPST0008
not_in_its_sequence = refl

-- (for $x in 1 return $x), $x
gone_after_return : answer (both (flwor (for_in x one ∷ []) (var x)) (var x)) ≡ Some XPST0008
gone_after_return = refl

-- some $x in 1, $y in $x satisfies $y
earlier_binding : answer (form_places (Expr-F.Quantified SomeOf ((bare x, one) ∷ (bare y, var x) ∷ []) (var y))) ≡ None
earlier_binding = refl

-- for $x allowing empty at $x in 1 return 1
same_position_or_empty : answer (flwor (for_or_empty_at x x one ∷ []) one) ≡ Some XQST0089
same_position_or_empty = refl

-- for $x in 1 count $y return $y
counted : answer (flwor (for_in x one ∷ count_as y ∷ []) (var y)) ≡ None
counted = refl

-- (for $x in 1 count $y return 1), $y
number_is_gone_after_return : answer (both (flwor (for_in x one ∷ count_as y ∷ []) one) (var y)) ≡ Some XPST0008
number_is_gone_after_return = refl

-- for $x in 1 count $y group by $y return $y
grouped_by_number : answer (flwor (for_in x one ∷ count_as y ∷ group_by (spec y ∷ []) ∷ []) (var y)) ≡ None
grouped_by_number = refl

-- for $x in 1 count $p:y return 1
prefixed_number : answer (flwor (for_in x one ∷ clause_binding (Clause-F.Count (prefixed (codes "p") y)) ∷ []) one) ≡ Some ProfPrefix
prefixed_number = refl

-- ---- grouping variables

-- for $x in 1 group by $y return 1
not_bound : answer (flwor (for_in x one ∷ group_by (spec y ∷ []) ∷ []) one) ≡ Some XQST0094
not_bound = refl

-- let $y := 1 return for $x in 1 group by $y return 1
bound_outside : answer (flwor (let_be y one ∷ []) (flwor (for_in x one ∷ group_by (spec y ∷ []) ∷ []) one)) ≡ Some XQST0094
bound_outside = refl

-- for $x in 1 group by $k := $x, $k return ($x, $k)
bound_by_the_group : answer (flwor (for_in x one ∷ group_by (spec_be k (var x) ∷ spec k ∷ []) ∷ []) (both (var x) (var k))) ≡ None
bound_by_the_group = refl

-- for $x in 1 group by $k, $k := 1 return 1
bound_too_late : answer (flwor (for_in x one ∷ group_by (spec k ∷ spec_be k one ∷ []) ∷ []) one) ≡ Some XQST0094
bound_too_late = refl
