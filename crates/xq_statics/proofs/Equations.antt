-- The places of each form from those of its parts: an equation for each variant of the cycle of types.
use Rattle.std.proofs.Common.{◌≡◌, ℕ, ℤ, List, map, Option, sym, ◌∙◌, ap}
use Rattle.xq_expressions.specs.declared.names.QName.{QName}
use Rattle.xq_expressions.specs.declared.operators.AllowingEmpty.{AllowingEmpty}
use Rattle.xq_expressions.specs.declared.operators.Quantifier.{Quantifier}
use Rattle.xq_expressions.specs.declared.operators.ComparisonOperator.{ComparisonOperator}
use Rattle.xq_expressions.specs.declared.operators.Sign.{Sign}
use Rattle.xq_expressions.specs.declared.operators.ProductOperator.{ProductOperator}
use Rattle.xq_expressions.specs.declared.operators.SetOperator.{SetOperator}
use Rattle.xq_expressions.specs.declared.operators.PathStart.{PathStart}
use Rattle.xq_expressions.specs.declared.operators.Separator.{Separator}
use Rattle.xq_expressions.specs.declared.operators.AxisStep.{AxisStep}
use Rattle.xq_expressions.specs.declared.operators.NamedNode.{NamedNode}
use Rattle.xq_expressions.specs.declared.operators.UnnamedNode.{UnnamedNode}
use Rattle.xq_expressions.specs.declared.operators.OrderModifier.{OrderModifier}
use Rattle.xq_expressions.specs.declared.expressions.Expr.{Expr, fold-roll-Expr}
use Rattle.xq_expressions.specs.declared.expressions.Expr.TheVariants as e
use Rattle.xq_expressions.specs.declared.expressions.Clause.{Clause, fold-roll-Clause}
use Rattle.xq_expressions.specs.declared.expressions.Clause.TheVariants as c
use Rattle.xq_expressions.specs.declared.expressions.ConstructorName.{ConstructorName, fold-roll-ConstructorName}
use Rattle.xq_expressions.specs.declared.expressions.ConstructorName.TheVariants as n
use Rattle.xq_expressions.specs.declared.expressions.GroupSpec.{GroupSpec, fold-roll-GroupSpec}
use Rattle.xq_expressions.specs.declared.expressions.GroupSpec.TheVariants as g
use Rattle.xq_expressions.specs.declared.expressions.Step.{Step, fold-roll-Step}
use Rattle.xq_expressions.specs.declared.expressions.Step.TheVariants as s
use Rattle.xq_expressions.specs.declared.expressions.Clause.TheOpen.{Clause-F, ConstructorName-F, Expr-F, GroupSpec-F, Step-F}
use Rattle.xq_statics.specs.Statics.{Binding, Places, places, clause_binding, name_places, form_places, group_binding, step_places}
use Rattle.xq_statics.specs.private.Parts.{clause, constructor_name, group_spec, step}

pub places-Sequence : (x : List Expr) → places (e.Sequence x) ≡ form_places (Expr-F.Sequence (map places x))
places-Sequence x = ap places (sym (e.rolls-Sequence x)) ∙ fold-roll-Expr Binding Places Places Binding Places clause_binding name_places form_places group_binding step_places (Expr-F.Sequence x)

pub places-Flwor : (x : List Clause) (y : Expr) → places (e.Flwor x y) ≡ form_places (Expr-F.Flwor (map clause x) (places y))
places-Flwor x y = ap places (sym (e.rolls-Flwor x y)) ∙ fold-roll-Expr Binding Places Places Binding Places clause_binding name_places form_places group_binding step_places (Expr-F.Flwor x y)

pub places-Quantified : (x : Quantifier) (y : List (QName × Expr)) (z : Expr) → places (e.Quantified x y z) ≡ form_places (Expr-F.Quantified x (map (λ (b : QName × Expr). (b.0, places b.1)) y) (places z))
places-Quantified x y z = ap places (sym (e.rolls-Quantified x y z)) ∙ fold-roll-Expr Binding Places Places Binding Places clause_binding name_places form_places group_binding step_places (Expr-F.Quantified x y z)

pub places-If : (x : Expr) (y : Expr) (z : Expr) → places (e.If x y z) ≡ form_places (Expr-F.If (places x) (places y) (places z))
places-If x y z = ap places (sym (e.rolls-If x y z)) ∙ fold-roll-Expr Binding Places Places Binding Places clause_binding name_places form_places group_binding step_places (Expr-F.If x y z)

pub places-Or : (x : List Expr) → places (e.Or x) ≡ form_places (Expr-F.Or (map places x))
places-Or x = ap places (sym (e.rolls-Or x)) ∙ fold-roll-Expr Binding Places Places Binding Places clause_binding name_places form_places group_binding step_places (Expr-F.Or x)

pub places-And : (x : List Expr) → places (e.And x) ≡ form_places (Expr-F.And (map places x))
places-And x = ap places (sym (e.rolls-And x)) ∙ fold-roll-Expr Binding Places Places Binding Places clause_binding name_places form_places group_binding step_places (Expr-F.And x)

pub places-Comparison : (x : Expr) (y : ComparisonOperator) (z : Expr) → places (e.Comparison x y z) ≡ form_places (Expr-F.Comparison (places x) y (places z))
places-Comparison x y z = ap places (sym (e.rolls-Comparison x y z)) ∙ fold-roll-Expr Binding Places Places Binding Places clause_binding name_places form_places group_binding step_places (Expr-F.Comparison x y z)

pub places-Concat : (x : List Expr) → places (e.Concat x) ≡ form_places (Expr-F.Concat (map places x))
places-Concat x = ap places (sym (e.rolls-Concat x)) ∙ fold-roll-Expr Binding Places Places Binding Places clause_binding name_places form_places group_binding step_places (Expr-F.Concat x)

pub places-Range : (x : Expr) (y : Expr) → places (e.Range x y) ≡ form_places (Expr-F.Range (places x) (places y))
places-Range x y = ap places (sym (e.rolls-Range x y)) ∙ fold-roll-Expr Binding Places Places Binding Places clause_binding name_places form_places group_binding step_places (Expr-F.Range x y)

pub places-Sum : (x : Expr) (y : List (Sign × Expr)) → places (e.Sum x y) ≡ form_places (Expr-F.Sum (places x) (map (λ (o : Sign × Expr). (o.0, places o.1)) y))
places-Sum x y = ap places (sym (e.rolls-Sum x y)) ∙ fold-roll-Expr Binding Places Places Binding Places clause_binding name_places form_places group_binding step_places (Expr-F.Sum x y)

pub places-Product : (x : Expr) (y : List (ProductOperator × Expr)) → places (e.Product x y) ≡ form_places (Expr-F.Product (places x) (map (λ (o : ProductOperator × Expr). (o.0, places o.1)) y))
places-Product x y = ap places (sym (e.rolls-Product x y)) ∙ fold-roll-Expr Binding Places Places Binding Places clause_binding name_places form_places group_binding step_places (Expr-F.Product x y)

pub places-Union : (x : List Expr) → places (e.Union x) ≡ form_places (Expr-F.Union (map places x))
places-Union x = ap places (sym (e.rolls-Union x)) ∙ fold-roll-Expr Binding Places Places Binding Places clause_binding name_places form_places group_binding step_places (Expr-F.Union x)

pub places-SetOperation : (x : Expr) (y : List (SetOperator × Expr)) → places (e.SetOperation x y) ≡ form_places (Expr-F.SetOperation (places x) (map (λ (o : SetOperator × Expr). (o.0, places o.1)) y))
places-SetOperation x y = ap places (sym (e.rolls-SetOperation x y)) ∙ fold-roll-Expr Binding Places Places Binding Places clause_binding name_places form_places group_binding step_places (Expr-F.SetOperation x y)

pub places-Unary : (x : List Sign) (y : Expr) → places (e.Unary x y) ≡ form_places (Expr-F.Unary x (places y))
places-Unary x y = ap places (sym (e.rolls-Unary x y)) ∙ fold-roll-Expr Binding Places Places Binding Places clause_binding name_places form_places group_binding step_places (Expr-F.Unary x y)

pub places-Arrow : (x : Expr) (y : List (QName × List Expr)) → places (e.Arrow x y) ≡ form_places (Expr-F.Arrow (places x) (map (λ (c : QName × List Expr). (c.0, map places c.1)) y))
places-Arrow x y = ap places (sym (e.rolls-Arrow x y)) ∙ fold-roll-Expr Binding Places Places Binding Places clause_binding name_places form_places group_binding step_places (Expr-F.Arrow x y)

pub places-Map : (x : Expr) (y : List Expr) → places (e.Map x y) ≡ form_places (Expr-F.Map (places x) (map places y))
places-Map x y = ap places (sym (e.rolls-Map x y)) ∙ fold-roll-Expr Binding Places Places Binding Places clause_binding name_places form_places group_binding step_places (Expr-F.Map x y)

pub places-Root : places e.Root ≡ form_places (Expr-F.Root)
places-Root = ap places (sym e.rolls-Root) ∙ fold-roll-Expr Binding Places Places Binding Places clause_binding name_places form_places group_binding step_places Expr-F.Root

pub places-Path : (x : PathStart) (y : Step) (z : List (Separator × Step)) → places (e.Path x y z) ≡ form_places (Expr-F.Path x (step y) (map (λ (o : Separator × Step). (o.0, step o.1)) z))
places-Path x y z = ap places (sym (e.rolls-Path x y z)) ∙ fold-roll-Expr Binding Places Places Binding Places clause_binding name_places form_places group_binding step_places (Expr-F.Path x y z)

pub places-Int : (x : ℤ) → places (e.Int x) ≡ form_places (Expr-F.Int x)
places-Int x = ap places (sym (e.rolls-Int x)) ∙ fold-roll-Expr Binding Places Places Binding Places clause_binding name_places form_places group_binding step_places (Expr-F.Int x)

pub places-Dec : (x : ℤ) → places (e.Dec x) ≡ form_places (Expr-F.Dec x)
places-Dec x = ap places (sym (e.rolls-Dec x)) ∙ fold-roll-Expr Binding Places Places Binding Places clause_binding name_places form_places group_binding step_places (Expr-F.Dec x)

pub places-Str : (x : List ℕ) → places (e.Str x) ≡ form_places (Expr-F.Str x)
places-Str x = ap places (sym (e.rolls-Str x)) ∙ fold-roll-Expr Binding Places Places Binding Places clause_binding name_places form_places group_binding step_places (Expr-F.Str x)

pub places-Variable : (x : QName) → places (e.Variable x) ≡ form_places (Expr-F.«Expr::Variable» x)
places-Variable x = ap places (sym (e.rolls-Variable x)) ∙ fold-roll-Expr Binding Places Places Binding Places clause_binding name_places form_places group_binding step_places (Expr-F.«Expr::Variable» x)

pub places-ContextItem : places e.ContextItem ≡ form_places (Expr-F.ContextItem)
places-ContextItem = ap places (sym e.rolls-ContextItem) ∙ fold-roll-Expr Binding Places Places Binding Places clause_binding name_places form_places group_binding step_places Expr-F.ContextItem

pub places-Call : (x : QName) (y : List Expr) → places (e.Call x y) ≡ form_places (Expr-F.Call x (map places y))
places-Call x y = ap places (sym (e.rolls-Call x y)) ∙ fold-roll-Expr Binding Places Places Binding Places clause_binding name_places form_places group_binding step_places (Expr-F.Call x y)

pub places-Named : (x : NamedNode) (y : ConstructorName) (z : Expr) → places (e.Named x y z) ≡ form_places (Expr-F.Named x (constructor_name y) (places z))
places-Named x y z = ap places (sym (e.rolls-Named x y z)) ∙ fold-roll-Expr Binding Places Places Binding Places clause_binding name_places form_places group_binding step_places (Expr-F.Named x y z)

pub places-Unnamed : (x : UnnamedNode) (y : Expr) → places (e.Unnamed x y) ≡ form_places (Expr-F.Unnamed x (places y))
places-Unnamed x y = ap places (sym (e.rolls-Unnamed x y)) ∙ fold-roll-Expr Binding Places Places Binding Places clause_binding name_places form_places group_binding step_places (Expr-F.Unnamed x y)

pub clause-For : (x : List (QName × AllowingEmpty × Option QName × Expr)) → clause (c.For x) ≡ clause_binding (Clause-F.For (map (λ (b : QName × AllowingEmpty × Option QName × Expr). (b.0, b.1, b.2, places b.3)) x))
clause-For x = ap clause (sym (c.rolls-For x)) ∙ fold-roll-Clause Binding Places Places Binding Places clause_binding name_places form_places group_binding step_places (Clause-F.For x)

pub clause-Let : (x : List (QName × Expr)) → clause (c.Let x) ≡ clause_binding (Clause-F.Let (map (λ (b : QName × Expr). (b.0, places b.1)) x))
clause-Let x = ap clause (sym (c.rolls-Let x)) ∙ fold-roll-Clause Binding Places Places Binding Places clause_binding name_places form_places group_binding step_places (Clause-F.Let x)

pub clause-Filter : (x : Expr) → clause (c.Filter x) ≡ clause_binding (Clause-F.Filter (places x))
clause-Filter x = ap clause (sym (c.rolls-Filter x)) ∙ fold-roll-Clause Binding Places Places Binding Places clause_binding name_places form_places group_binding step_places (Clause-F.Filter x)

pub clause-Group : (x : List GroupSpec) → clause (c.Group x) ≡ clause_binding (Clause-F.Group (map group_spec x))
clause-Group x = ap clause (sym (c.rolls-Group x)) ∙ fold-roll-Clause Binding Places Places Binding Places clause_binding name_places form_places group_binding step_places (Clause-F.Group x)

pub clause-Order : (x : List (Expr × OrderModifier)) → clause (c.Order x) ≡ clause_binding (Clause-F.Order (map (λ (s : Expr × OrderModifier). (places s.0, s.1)) x))
clause-Order x = ap clause (sym (c.rolls-Order x)) ∙ fold-roll-Clause Binding Places Places Binding Places clause_binding name_places form_places group_binding step_places (Clause-F.Order x)

pub clause-Count : (x : QName) → clause (c.Count x) ≡ clause_binding (Clause-F.Count x)
clause-Count x = ap clause (sym (c.rolls-Count x)) ∙ fold-roll-Clause Binding Places Places Binding Places clause_binding name_places form_places group_binding step_places (Clause-F.Count x)

pub name-Literal : (x : QName) → constructor_name (n.Literal x) ≡ name_places (ConstructorName-F.Literal x)
name-Literal x = ap constructor_name (sym (n.rolls-Literal x)) ∙ fold-roll-ConstructorName Binding Places Places Binding Places clause_binding name_places form_places group_binding step_places (ConstructorName-F.Literal x)

pub name-Computed : (x : Expr) → constructor_name (n.Computed x) ≡ name_places (ConstructorName-F.Computed (places x))
name-Computed x = ap constructor_name (sym (n.rolls-Computed x)) ∙ fold-roll-ConstructorName Binding Places Places Binding Places clause_binding name_places form_places group_binding step_places (ConstructorName-F.Computed x)

pub spec-Variable : (x : QName) → group_spec (g.Variable x) ≡ group_binding (GroupSpec-F.«GroupSpec::Variable» x)
spec-Variable x = ap group_spec (sym (g.rolls-Variable x)) ∙ fold-roll-GroupSpec Binding Places Places Binding Places clause_binding name_places form_places group_binding step_places (GroupSpec-F.«GroupSpec::Variable» x)

pub spec-Assigned : (x : QName) (y : Expr) → group_spec (g.Assigned x y) ≡ group_binding (GroupSpec-F.Assigned x (places y))
spec-Assigned x y = ap group_spec (sym (g.rolls-Assigned x y)) ∙ fold-roll-GroupSpec Binding Places Places Binding Places clause_binding name_places form_places group_binding step_places (GroupSpec-F.Assigned x y)

pub step-Axis : (x : AxisStep) (y : List Expr) → step (s.Axis x y) ≡ step_places (Step-F.Axis x (map places y))
step-Axis x y = ap step (sym (s.rolls-Axis x y)) ∙ fold-roll-Step Binding Places Places Binding Places clause_binding name_places form_places group_binding step_places (Step-F.Axis x y)

pub step-Primary : (x : Expr) (y : List Expr) → step (s.Primary x y) ≡ step_places (Step-F.Primary (places x) (map places y))
step-Primary x y = ap step (sym (s.rolls-Primary x y)) ∙ fold-roll-Step Binding Places Places Binding Places clause_binding name_places form_places group_binding step_places (Step-F.Primary x y)
