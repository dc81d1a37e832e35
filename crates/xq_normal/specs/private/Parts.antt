-- What the parts of an expression mean, as the functions of the walk take them.
use Rattle.std.specs.Prelude.{ℕ, List, [], ◌∷◌, ◌++◌, map, Option, Some, None, if◌then◌else◌}
use Rattle.xq_expressions.specs.declared.expressions.Expr.{Expr}
use Rattle.xq_expressions.specs.declared.expressions.GroupSpec.{GroupSpec}
use Rattle.xq_expressions.specs.declared.expressions.Step.{Step}
use Rattle.xq_expressions.specs.declared.names.QName.{QName}
use Rattle.xq_expressions.specs.declared.operators.AllowingEmpty.{AllowingEmpty}
use Rattle.xq_expressions.specs.declared.signatures.Function.{Function}
use Rattle.xq_expressions.specs.declared.operators.OrderModifier.{OrderModifier}
use Rattle.xq_expressions.specs.declared.operators.Separator.{Separator}
use Rattle.xq_expressions.specs.declared.operators.Separator.TheVariants.{Slash, DoubleSlash}
use Rattle.xq_expressions.specs.declared.operators.PathStart.{PathStart}
use Rattle.xq_expressions.specs.declared.operators.PathStart.TheVariants.{Relative, Root, RootAndBelow}
use Rattle.xq_expressions.specs.Signatures.{arity, admits}
use Rattle.xq_meaning.specs.declared.operators.Operator.{Operator}
use Rattle.xq_atoms.specs.Text.{Text}
use Rattle.xq_meaning.specs.declared.normal_forms.Core.{Core}
use Rattle.xq_meaning.specs.Forms
use Rattle.xq_meaning.specs.Meaning.{Environment, Meaning, ClauseMeaning, GroupMeaning, local_name, bind, after, for_clause, let_clause, mean, group_mean, step_mean}
use Rattle.xq_meaning.specs.CoreMeaning.{core_mean}

-- # Operators

abbrev pub core_operands : List (Operator × Core) → List (Operator × Meaning)
core_operands = map (λ (x, y). (x, core_mean y))

abbrev pub operands : {O : Type 0} → (O → Operator) → List (O × Expr) → List (Operator × Meaning)
operands {O} operator = map (λ (o : O × Expr). (operator o.0, mean o.1))

abbrev pub following : Operator → List Expr → List (Operator × Meaning)
following operator = map (λ part. (operator, mean part))

abbrev pub operation : Meaning → Operator → Meaning → Meaning
operation left operator right = Forms.chain left ((operator, right) ∷ [])

-- # Calls

-- the function, where it takes so many arguments
abbrev pub admitted : Option Function → ℕ → Option Function
admitted None count = None
admitted (Some function) count = if admits (arity function) count then Some function else None

abbrev pub core_calls : List (Function × List Core) → List (Function × List Meaning)
core_calls = map (λ (c : Function × List Core). (c.0, map core_mean c.1))

abbrev pub calls : List (QName × List Expr) → List (QName × List Meaning)
calls = map (λ (c : QName × List Expr). (c.0, map mean c.1))

-- # Paths

abbrev pub steps : List (Separator × Step) → List (Separator × Meaning)
steps = map (λ (x, y). (x, step_mean y))

abbrev pub path : Meaning → List Meaning → Meaning
path start found = Forms.path start found

abbrev pub rooted : Separator → Meaning → List Meaning → Meaning
rooted separator first later = Forms.path Forms.root (after separator first ++ later)

-- a path: how it starts, its first step, and the parts that follow that step
abbrev pub path_from : PathStart → Meaning → List Meaning → Meaning
path_from Relative first later = Forms.path first later
path_from Root first later = rooted Slash first later
path_from RootAndBelow first later = rooted DoubleSlash first later

abbrev pub filter_of : Meaning → List Meaning → Meaning
filter_of primary predicates = Forms.filter_of primary predicates

-- # Clauses and bindings

abbrev pub ranges : List (QName × AllowingEmpty × Option QName × Expr) → List ClauseMeaning
ranges = map (λ (v, empties, at, part). for_clause v.local empties (local_name at) (mean part))

abbrev pub assignments : List (QName × Expr) → List ClauseMeaning
assignments = map (λ (v, part). let_clause v.local (mean part))

abbrev pub lets : GroupMeaning → List ClauseMeaning
lets (v, found) = found

abbrev pub variable : GroupMeaning → Text
variable (v, found) = v

-- the names of grouping variables
abbrev pub variables : List GroupSpec → List Text
variables = map (λ spec. variable (group_mean spec))

abbrev pub core_keys : List (Core × OrderModifier) → List (Meaning × OrderModifier)
core_keys = map (λ (x, y). (core_mean x, y))

abbrev pub keys : List (Expr × OrderModifier) → List (Meaning × OrderModifier)
keys = map (λ (x, y). (mean x, y))

abbrev pub core_bindings : List (Text × Core) → List (Forms.Binding Environment)
core_bindings = map (λ (v, range). (bind v, core_mean range))

abbrev pub bindings : List (QName × Expr) → List (Forms.Binding Environment)
bindings = map (λ (v, range). (bind v.local, mean range))
