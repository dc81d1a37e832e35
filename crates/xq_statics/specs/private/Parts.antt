-- The places of each part of an expression, and of lists of parts, as the functions of the walk
-- take them.
use Rattle.std.specs.Prelude.{List, map, Option}
use Rattle.xq_atoms.specs.declared.refusals.Code.{Code}
use Rattle.xq_atoms.specs.Text.{Text}
use Rattle.xq_expressions.specs.declared.names.QName.{QName}
use Rattle.xq_expressions.specs.declared.operators.AllowingEmpty.{AllowingEmpty}
use Rattle.xq_expressions.specs.declared.expressions.Expr.{Expr}
use Rattle.xq_expressions.specs.declared.expressions.Clause.{Clause, fold-Clause}
use Rattle.xq_expressions.specs.declared.expressions.ConstructorName.{ConstructorName, fold-ConstructorName}
use Rattle.xq_expressions.specs.declared.expressions.GroupSpec.{GroupSpec, fold-GroupSpec}
use Rattle.xq_expressions.specs.declared.expressions.Step.{Step, fold-Step}
use Rattle.xq_statics.specs.Faults.{first_fault}
use Rattle.xq_statics.specs.Statics.{Places, Binding, places, each, arrow_call, in_turn, assigned, ranging, clause_binding, name_places, form_places, group_binding, step_places}

abbrev pub clause : Clause → Binding
clause = fold-Clause Binding Places Places Binding Places clause_binding name_places form_places
    group_binding step_places

abbrev pub constructor_name : ConstructorName → Places
constructor_name = fold-ConstructorName Binding Places Places Binding Places clause_binding
    name_places form_places group_binding step_places

abbrev pub group_spec : GroupSpec → Binding
group_spec = fold-GroupSpec Binding Places Places Binding Places clause_binding name_places
    form_places group_binding step_places

abbrev pub step : Step → Places
step = fold-Step Binding Places Places Binding Places clause_binding name_places form_places
    group_binding step_places

abbrev pub operands : {A : Type 0} → List (A × Expr) → Places
operands {A} more = each (map (λ (o : A × Expr). places o.1) more)

abbrev pub steps : {A : Type 0} → List (A × Step) → Places
steps {A} more = each (map (λ (o : A × Step). step o.1) more)

abbrev pub arrow_calls : List (QName × List Expr) → Places
arrow_calls calls = each (map (λ (c : QName × List Expr). arrow_call c.0 (map places c.1)) calls)

abbrev pub keys : {A : Type 0} → List (Expr × A) → Places
keys {A} specs = each (map (λ (s : Expr × A). places s.0) specs)

abbrev pub assignments : List (QName × Expr) → Binding
assignments bindings = in_turn (map (λ (b : QName × Expr). assigned b.0 (places b.1)) bindings)

abbrev pub ranges : List (QName × AllowingEmpty × Option QName × Expr) → Binding
ranges bindings = in_turn
    (map (λ (b : QName × AllowingEmpty × Option QName × Expr). ranging b.0 b.2 (places b.3))
    bindings)

abbrev pub fault : Places → List Text → Option Code
fault part names = first_fault (part names)

-- of a part that binds variables
abbrev pub binding_fault : Binding → List Text → List Text → Option Code
binding_fault part names bound = first_fault (part.places names bound)
