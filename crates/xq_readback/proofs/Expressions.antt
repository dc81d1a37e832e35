-- An expression gives legible values, where its parts do so: one lemma for each variant.
use Rattle.std.proofs.Common.{◌≡◌, ℤ, List, [], ◌∷◌, map, Option, sym, subst}
use Rattle.std.specs.List.{AllByRecursion}
use Rattle.xq_atoms.specs.Text.{Text}
use Rattle.xq_atoms.specs.Atom.{Integer, Decimal, String}
use Rattle.xq_expressions.specs.declared.names.QName.{QName}
use Rattle.xq_expressions.specs.declared.operators.AllowingEmpty.{AllowingEmpty}
use Rattle.xq_expressions.specs.declared.operators.Sign.{Sign}
use Rattle.xq_expressions.specs.declared.operators.ProductOperator.{ProductOperator}
use Rattle.xq_expressions.specs.declared.operators.SetOperator.{SetOperator}
use Rattle.xq_expressions.specs.declared.operators.ComparisonOperator.{ComparisonOperator}
use Rattle.xq_expressions.specs.declared.operators.Quantifier.{Quantifier}
use Rattle.xq_expressions.specs.declared.operators.PathStart.{PathStart}
use Rattle.xq_expressions.specs.declared.operators.Separator.{Separator}
use Rattle.xq_expressions.specs.declared.operators.AxisStep.{AxisStep}
use Rattle.xq_expressions.specs.declared.operators.NamedNode.{NamedNode}
use Rattle.xq_expressions.specs.declared.operators.UnnamedNode.{UnnamedNode}
use Rattle.xq_expressions.specs.declared.operators.OrderModifier.{OrderModifier}
use Rattle.xq_expressions.specs.declared.expressions.Expr.{Expr}
use Rattle.xq_expressions.specs.declared.expressions.Expr.TheVariants as e
use Rattle.xq_expressions.specs.declared.expressions.ConstructorName.{ConstructorName}
use Rattle.xq_expressions.specs.declared.expressions.ConstructorName.TheVariants as constructor_name
use Rattle.xq_expressions.specs.declared.expressions.Clause.{Clause}
use Rattle.xq_expressions.specs.declared.expressions.Clause.TheVariants as clause
use Rattle.xq_expressions.specs.declared.expressions.GroupSpec.{GroupSpec}
use Rattle.xq_expressions.specs.declared.expressions.GroupSpec.TheVariants as group
use Rattle.xq_expressions.specs.declared.expressions.Step.{Step}
use Rattle.xq_expressions.specs.declared.expressions.Step.TheVariants as step
use Rattle.xq_expressions.specs.Signatures.{function_named}
use Rattle.xq_meaning.specs.declared.operators.Operator.{Operator}
use Rattle.xq_meaning.specs.declared.operators.Operator.TheVariants as operator
use Rattle.xq_meaning.specs.Printable.{IsCharacters}
use Rattle.xq_meaning.specs.Meaning.{Meaning, ClauseMeaning, bind, local_name, for_clause, let_clause, mean, name_mean, clause_mean, group_mean, step_mean}
use Rattle.xq_meaning.proofs.Equations as is
use Rattle.xq_readback.proofs.Holding.{all_map}
use Rattle.xq_readback.proofs.Forms.{GivesLegible, AllGiveLegible, IsLegibleBinding, literal_gives, context_gives, sequence_gives, chain_gives, unary_gives, or_gives, and_gives, conditional_gives, filter_gives, simple_map_gives, root_gives, named_gives, unnamed_gives, quantified_gives}
use Rattle.xq_readback.proofs.Clauses.{bind_legible, variable_gives, joined_gives, axis_step_gives, AllStepsGive, path_from_gives, call_of_gives, AllCallsGive, arrow_gives, KeepsLegible, for_keeps, let_keeps, where_keeps, count_keeps, AllKeysGive, order_keeps, clauses_keep, flwor_gives, SpecKeeps, group_by_keeps}

-- # What is claimed of each part

abbrev pub IsGood : Expr → Type 0
IsGood x = GivesLegible (mean x)

abbrev pub AreGood : List Expr → Type 0
AreGood xs = AllByRecursion IsGood xs

-- a part with what stands before it
abbrev pub IsOperand : {A : Type 0} → A × Expr → Type 0
IsOperand o = Unit {0} × IsGood o.1

-- a call after `=>`, with its other arguments
abbrev pub IsGoodCall : QName × List Expr → Type 0
IsGoodCall c = AreGood c.1

abbrev pub IsGoodName : ConstructorName → Type 0
IsGoodName n = GivesLegible (name_mean n)

abbrev pub IsGoodClause : Clause → Type 0
IsGoodClause c = KeepsLegible (clause_mean c)

abbrev pub IsGoodSpec : GroupSpec → Type 0
IsGoodSpec spec = SpecKeeps (group_mean spec)

abbrev pub IsGoodStep : Step → Type 0
IsGoodStep s = GivesLegible (step_mean s)

by_form : (x : Expr) (m : Meaning) → mean x ≡ m → GivesLegible m → IsGood x
by_form x m same h = subst GivesLegible (sym same) h

-- # Lists of parts

meanings : (xs : List Expr) → AreGood xs → AllGiveLegible (map mean xs)
meanings xs h = all_map GivesLegible mean xs h

operands : {A : Type 0} (op : A → Operator) (rest : List (A × Expr)) → AllByRecursion (λ (o : A × Expr). IsOperand o) rest
    → AllByRecursion (λ (o : Operator × Meaning). GivesLegible o.1) (map (λ (o : A × Meaning). (op o.0, o.1)) (map (λ (o : A × Expr). (o.0, mean o.1)) rest))
operands op [] h = tt
operands op (o ∷ rest) h = (h.0.1, operands op rest h.1)

calls : (parts : List (QName × List Expr)) → AllByRecursion IsGoodCall parts → AllCallsGive (map (λ (c : QName × List Expr). (c.0, map mean c.1)) parts)
calls [] h = tt
calls (c ∷ parts) h = (meanings c.1 h.0, calls parts h.1)

steps : (rest : List (Separator × Step)) → AllByRecursion (λ (s : Separator × Step). Unit {0} × IsGoodStep s.1) rest → AllStepsGive (map (λ (s : Separator × Step). (s.0, step_mean s.1)) rest)
steps [] h = tt
steps (s ∷ rest) h = (h.0.1, steps rest h.1)

ranges : (bindings : List (QName × Expr)) → AllByRecursion (λ (b : QName × Expr). IsOperand b) bindings
    → AllByRecursion IsLegibleBinding (map (λ (b : QName × Meaning). (bind b.0.local, b.1)) (map (λ (b : QName × Expr). (b.0, mean b.1)) bindings))
ranges [] h = tt
ranges (b ∷ bindings) h = (record { binds = λ env xs good legible. bind_legible b.0.local env xs good legible; range = h.0.1 }, ranges bindings h.1)

-- # Expressions

pub int_good : (n : ℤ) → IsGood (e.Int n)
int_good n = by_form (e.Int n) _ (is.mean-Int n) (literal_gives (Integer n) tt)

pub dec_good : (m : ℤ) → IsGood (e.Dec m)
dec_good m = by_form (e.Dec m) _ (is.mean-Dec m) (literal_gives (Decimal m) tt)

pub str_good : (t : Text) → IsCharacters t → IsGood (e.Str t)
str_good t h = by_form (e.Str t) _ (is.mean-Str t) (literal_gives (String t) h)

pub variable_good : (v : QName) → IsGood (e.Variable v)
variable_good v = by_form (e.Variable v) _ (is.mean-Variable v) (variable_gives v.local)

pub context_good : IsGood e.ContextItem
context_good = by_form e.ContextItem _ is.mean-ContextItem context_gives

pub call_good : (q : QName) (xs : List Expr) → AreGood xs → IsGood (e.Call q xs)
call_good q xs h = by_form (e.Call q xs) _ (is.mean-Call q xs) (call_of_gives (function_named q.prefix q.local) (map mean xs) (meanings xs h))

pub sequence_good : (xs : List Expr) → AreGood xs → IsGood (e.Sequence xs)
sequence_good xs h = by_form (e.Sequence xs) _ (is.mean-Sequence xs) (sequence_gives (map mean xs) (meanings xs h))

pub range_good : (x y : Expr) → IsGood x → IsGood y → IsGood (e.Range x y)
range_good x y h k = by_form (e.Range x y) _ (is.mean-Range x y) (chain_gives (mean x) ((operator.Range, mean y) ∷ []) h (k, tt))

pub union_good : (xs : List Expr) → AreGood xs → IsGood (e.Union xs)
union_good xs h = by_form (e.Union xs) _ (is.mean-Union xs) (joined_gives operator.Union (map mean xs) (meanings xs h))

pub set_operation_good : (x : Expr) (rest : List (SetOperator × Expr)) → IsGood x → AllByRecursion (λ (o : SetOperator × Expr). IsOperand o) rest → IsGood (e.SetOperation x rest)
set_operation_good x rest h k = by_form (e.SetOperation x rest) _ (is.mean-SetOperation x rest) (chain_gives (mean x) _ h (operands (λ op. operator.SetOperation op) rest k))

pub sum_good : (x : Expr) (rest : List (Sign × Expr)) → IsGood x → AllByRecursion (λ (o : Sign × Expr). IsOperand o) rest → IsGood (e.Sum x rest)
sum_good x rest h k = by_form (e.Sum x rest) _ (is.mean-Sum x rest) (chain_gives (mean x) _ h (operands (λ op. operator.Sum op) rest k))

pub product_good : (x : Expr) (rest : List (ProductOperator × Expr)) → IsGood x → AllByRecursion (λ (o : ProductOperator × Expr). IsOperand o) rest → IsGood (e.Product x rest)
product_good x rest h k = by_form (e.Product x rest) _ (is.mean-Product x rest) (chain_gives (mean x) _ h (operands (λ op. operator.Product op) rest k))

pub unary_good : (signs : List Sign) (x : Expr) → IsGood x → IsGood (e.Unary signs x)
unary_good signs x h = by_form (e.Unary signs x) _ (is.mean-Unary signs x) (unary_gives signs (mean x) h)

pub arrow_good : (x : Expr) (parts : List (QName × List Expr)) → IsGood x → AllByRecursion IsGoodCall parts → IsGood (e.Arrow x parts)
arrow_good x parts h k = by_form (e.Arrow x parts) _ (is.mean-Arrow x parts) (arrow_gives (mean x) _ h (calls parts k))

pub map_good : (x : Expr) (xs : List Expr) → IsGood x → AreGood xs → IsGood (e.Map x xs)
map_good x xs h k = by_form (e.Map x xs) _ (is.mean-Map x xs) (simple_map_gives (mean x) (map mean xs) h (meanings xs k))

pub concat_good : (xs : List Expr) → AreGood xs → IsGood (e.Concat xs)
concat_good xs h = by_form (e.Concat xs) _ (is.mean-Concat xs) (joined_gives operator.Concat (map mean xs) (meanings xs h))

pub comparison_good : (x : Expr) (op : ComparisonOperator) (y : Expr) → IsGood x → IsGood y → IsGood (e.Comparison x op y)
comparison_good x op y h k = by_form (e.Comparison x op y) _ (is.mean-Comparison x op y) (chain_gives (mean x) ((operator.Comparison op, mean y) ∷ []) h (k, tt))

pub or_good : (xs : List Expr) → AreGood xs → IsGood (e.Or xs)
or_good xs h = by_form (e.Or xs) _ (is.mean-Or xs) (or_gives (map mean xs) (meanings xs h))

pub and_good : (xs : List Expr) → AreGood xs → IsGood (e.And xs)
and_good xs h = by_form (e.And xs) _ (is.mean-And xs) (and_gives (map mean xs) (meanings xs h))

pub root_good : IsGood e.Root
root_good = by_form e.Root _ is.mean-Root root_gives

pub path_good : (start : PathStart) (first : Step) (rest : List (Separator × Step)) → IsGoodStep first → AllByRecursion (λ (s : Separator × Step). Unit {0} × IsGoodStep s.1) rest → IsGood (e.Path start first rest)
path_good start first rest h k = by_form (e.Path start first rest) _ (is.mean-Path start first rest) (path_from_gives start (step_mean first) _ h (steps rest k))

pub named_good : (kind : NamedNode) (n : ConstructorName) (x : Expr) → IsGoodName n → IsGood x → IsGood (e.Named kind n x)
named_good kind n x h k = by_form (e.Named kind n x) _ (is.mean-Named kind n x) (named_gives kind (name_mean n) (mean x) h k)

pub unnamed_good : (kind : UnnamedNode) (x : Expr) → IsGood x → IsGood (e.Unnamed kind x)
unnamed_good kind x h = by_form (e.Unnamed kind x) _ (is.mean-Unnamed kind x) (unnamed_gives kind (mean x) h)

pub flwor_good : (clauses : List Clause) (x : Expr) → AllByRecursion IsGoodClause clauses → IsGood x → IsGood (e.Flwor clauses x)
flwor_good clauses x h k = by_form (e.Flwor clauses x) _ (is.mean-Flwor clauses x) (flwor_gives (map clause_mean clauses) (mean x) (all_map KeepsLegible clause_mean clauses h) k)

pub if_good : (test yes' no' : Expr) → IsGood test → IsGood yes' → IsGood no' → IsGood (e.If test yes' no')
if_good test yes' no' h k g = by_form (e.If test yes' no') _ (is.mean-If test yes' no') (conditional_gives (mean test) (mean yes') (mean no') h k g)

pub quantified_good : (which : Quantifier) (bindings : List (QName × Expr)) (x : Expr) → AllByRecursion (λ (b : QName × Expr). IsOperand b) bindings → IsGood x → IsGood (e.Quantified which bindings x)
quantified_good which bindings x h k = by_form (e.Quantified which bindings x) _ (is.mean-Quantified which bindings x) (quantified_gives which _ (mean x) (ranges bindings h) k)

-- # Names of constructed nodes

pub literal_name_good : (q : QName) → IsCharacters q.local → IsGoodName (constructor_name.Literal q)
literal_name_good q h = subst GivesLegible (sym (is.name-Literal q)) (literal_gives (String q.local) h)

pub computed_name_good : (x : Expr) → IsGood x → IsGoodName (constructor_name.Computed x)
computed_name_good x h = subst GivesLegible (sym (is.name-Computed x)) h

-- # Clauses

-- a binding of for
abbrev pub IsGoodFor : QName × AllowingEmpty × Option QName × Expr → Type 0
IsGoodFor b = IsGood b.3

for_parts : (bindings : List (QName × AllowingEmpty × Option QName × Expr)) → AllByRecursion IsGoodFor bindings
    → AllByRecursion KeepsLegible (map (λ (b : QName × AllowingEmpty × Option QName × Meaning). for_clause b.0.local b.1 (local_name b.2) b.3) (map (λ (b : QName × AllowingEmpty × Option QName × Expr). (b.0, b.1, b.2, mean b.3)) bindings))
for_parts [] h = tt
for_parts (b ∷ bindings) h = (for_keeps b.0.local b.1 (local_name b.2) (mean b.3) h.0, for_parts bindings h.1)

let_parts : (bindings : List (QName × Expr)) → AllByRecursion (λ (b : QName × Expr). IsOperand b) bindings
    → AllByRecursion KeepsLegible (map (λ (b : QName × Meaning). let_clause b.0.local b.1) (map (λ (b : QName × Expr). (b.0, mean b.1)) bindings))
let_parts [] h = tt
let_parts (b ∷ bindings) h = (let_keeps b.0.local (mean b.1) h.0.1, let_parts bindings h.1)

-- a key of an order
abbrev pub IsGoodKey : Expr × OrderModifier → Type 0
IsGoodKey spec = IsGood spec.0

keys : (specs : List (Expr × OrderModifier)) → AllByRecursion IsGoodKey specs → AllKeysGive (map (λ (spec : Expr × OrderModifier). (mean spec.0, spec.1)) specs)
keys [] h = tt
keys (spec ∷ specs) h = (h.0, keys specs h.1)

by_clause : (c : Clause) (m : ClauseMeaning) → clause_mean c ≡ m → KeepsLegible m → IsGoodClause c
by_clause c m same h = subst KeepsLegible (sym same) h

pub for_good : (bindings : List (QName × AllowingEmpty × Option QName × Expr)) → AllByRecursion IsGoodFor bindings → IsGoodClause (clause.For bindings)
for_good bindings h = by_clause (clause.For bindings) _ (is.clause-For bindings) (clauses_keep _ (for_parts bindings h))

pub let_good : (bindings : List (QName × Expr)) → AllByRecursion (λ (b : QName × Expr). IsOperand b) bindings → IsGoodClause (clause.Let bindings)
let_good bindings h = by_clause (clause.Let bindings) _ (is.clause-Let bindings) (clauses_keep _ (let_parts bindings h))

pub filter_good : (x : Expr) → IsGood x → IsGoodClause (clause.Filter x)
filter_good x h = by_clause (clause.Filter x) _ (is.clause-Filter x) (where_keeps (mean x) h)

pub group_good : (specs : List GroupSpec) → AllByRecursion IsGoodSpec specs → IsGoodClause (clause.Group specs)
group_good specs h = by_clause (clause.Group specs) _ (is.clause-Group specs) (group_by_keeps (map group_mean specs) (all_map SpecKeeps group_mean specs h))

pub order_good : (specs : List (Expr × OrderModifier)) → AllByRecursion IsGoodKey specs → IsGoodClause (clause.Order specs)
order_good specs h = by_clause (clause.Order specs) _ (is.clause-Order specs) (order_keeps _ (keys specs h))

pub count_good : (v : QName) → IsGoodClause (clause.Count v)
count_good v = by_clause (clause.Count v) _ (is.clause-Count v) (count_keeps v.local)

pub grouping_good : (q : QName) → IsGoodSpec (group.Variable q)
grouping_good q = subst SpecKeeps (sym (is.grouping-Variable q)) tt

pub assigned_good : (q : QName) (x : Expr) → IsGood x → IsGoodSpec (group.Assigned q x)
assigned_good q x h = subst SpecKeeps (sym (is.grouping-Assigned q x)) (let_keeps q.local (mean x) h, tt)

-- # Steps

pub axis_step_good : (along : AxisStep) (predicates : List Expr) → AreGood predicates → IsGoodStep (step.Axis along predicates)
axis_step_good along predicates h = subst GivesLegible (sym (is.step-Axis along predicates)) (axis_step_gives along (map mean predicates) (meanings predicates h))

pub primary_step_good : (x : Expr) (predicates : List Expr) → IsGood x → AreGood predicates → IsGoodStep (step.Primary x predicates)
primary_step_good x predicates h k = subst GivesLegible (sym (is.step-Primary x predicates)) (filter_gives (mean x) (map mean predicates) h (meanings predicates k))
