-- The meaning of an expression at each form, from the meanings of its parts.
use Rattle.std.specs.Prelude.{◌≡◌, ℕ, ℤ, List, map, Option}
use Rattle.std.proofs.Common.{sym, ◌∙◌, ap}
use Rattle.xq_expressions.specs.declared.names.QName.{QName}
use Rattle.xq_expressions.specs.declared.operators.AllowingEmpty.{AllowingEmpty}
use Rattle.xq_expressions.specs.declared.operators.Sign.{Sign}
use Rattle.xq_expressions.specs.declared.operators.ProductOperator.{ProductOperator}
use Rattle.xq_expressions.specs.declared.operators.SetOperator.{SetOperator}
use Rattle.xq_expressions.specs.declared.operators.ComparisonOperator.{ComparisonOperator}
use Rattle.xq_expressions.specs.declared.operators.Quantifier.{Quantifier}
use Rattle.xq_expressions.specs.declared.operators.PathStart.{PathStart}
use Rattle.xq_expressions.specs.declared.operators.Separator.{Separator}
use Rattle.xq_expressions.specs.declared.operators.AxisStep.{AxisStep}
use Rattle.xq_expressions.specs.declared.operators.NamedNode.{NamedNode}
use Rattle.xq_expressions.specs.declared.operators.UnnamedNode.{UnnamedNode}
use Rattle.xq_expressions.specs.declared.operators.OrderModifier.{OrderModifier}
use Rattle.xq_expressions.specs.declared.expressions.Expr.{Expr, fold-roll-Expr}
use Rattle.xq_expressions.specs.declared.expressions.ConstructorName.{ConstructorName, fold-roll-ConstructorName}
use Rattle.xq_expressions.specs.declared.expressions.Clause.{Clause, fold-roll-Clause}
use Rattle.xq_expressions.specs.declared.expressions.GroupSpec.{GroupSpec, fold-roll-GroupSpec}
use Rattle.xq_expressions.specs.declared.expressions.Step.{Step, fold-roll-Step}
use Rattle.xq_expressions.specs.declared.expressions.Expr.TheVariants as expr
use Rattle.xq_expressions.specs.declared.expressions.ConstructorName.TheVariants as written
use Rattle.xq_expressions.specs.declared.expressions.Clause.TheVariants as clause
use Rattle.xq_expressions.specs.declared.expressions.GroupSpec.TheVariants as grouping
use Rattle.xq_expressions.specs.declared.expressions.Step.TheVariants as step
use Rattle.xq_expressions.specs.declared.expressions.Clause.TheOpen.{Clause-F, ConstructorName-F, Expr-F, GroupSpec-F, Step-F}
use Rattle.xq_meaning.specs.Meaning.{Meaning, ClauseMeaning, GroupMeaning, clause_meaning, name_meaning, form_meaning, group_meaning, step_meaning, mean, name_mean, clause_mean, group_mean, step_mean}

pub mean-Sequence : (a : List Expr) → mean (expr.Sequence a)
    ≡ form_meaning (Expr-F.Sequence (map mean a))
mean-Sequence a =
    ap mean (sym (expr.rolls-Sequence a))
    ∙ fold-roll-Expr ClauseMeaning Meaning Meaning GroupMeaning Meaning clause_meaning
    name_meaning form_meaning group_meaning step_meaning (Expr-F.Sequence a)

pub mean-Flwor : (a : List Clause) (b : Expr) → mean (expr.Flwor a b)
    ≡ form_meaning (Expr-F.Flwor (map clause_mean a) (mean b))
mean-Flwor a b =
    ap mean (sym (expr.rolls-Flwor a b))
    ∙ fold-roll-Expr ClauseMeaning Meaning Meaning GroupMeaning Meaning clause_meaning
    name_meaning form_meaning group_meaning step_meaning (Expr-F.Flwor a b)

pub mean-Quantified : (a : Quantifier) (b : List (QName × Expr)) (c : Expr) →
    mean (expr.Quantified a b c)
    ≡ form_meaning (Expr-F.Quantified a (map (λ (x, y). (x, mean y)) b) (mean c))
mean-Quantified a b c =
    ap mean (sym (expr.rolls-Quantified a b c))
    ∙ fold-roll-Expr ClauseMeaning Meaning Meaning GroupMeaning Meaning clause_meaning
    name_meaning form_meaning group_meaning step_meaning (Expr-F.Quantified a b c)

pub mean-If : (a : Expr) (b : Expr) (c : Expr) → mean (expr.If a b c)
    ≡ form_meaning (Expr-F.If (mean a) (mean b) (mean c))
mean-If a b c =
    ap mean (sym (expr.rolls-If a b c))
    ∙ fold-roll-Expr ClauseMeaning Meaning Meaning GroupMeaning Meaning clause_meaning
    name_meaning form_meaning group_meaning step_meaning (Expr-F.If a b c)

pub mean-Or : (a : List Expr) → mean (expr.Or a) ≡ form_meaning (Expr-F.Or (map mean a))
mean-Or a =
    ap mean (sym (expr.rolls-Or a))
    ∙ fold-roll-Expr ClauseMeaning Meaning Meaning GroupMeaning Meaning clause_meaning
    name_meaning form_meaning group_meaning step_meaning (Expr-F.Or a)

pub mean-And : (a : List Expr) → mean (expr.And a) ≡ form_meaning (Expr-F.And (map mean a))
mean-And a =
    ap mean (sym (expr.rolls-And a))
    ∙ fold-roll-Expr ClauseMeaning Meaning Meaning GroupMeaning Meaning clause_meaning
    name_meaning form_meaning group_meaning step_meaning (Expr-F.And a)

pub mean-Comparison : (a : Expr) (b : ComparisonOperator) (c : Expr) → mean (expr.Comparison a b c)
    ≡ form_meaning (Expr-F.Comparison (mean a) b (mean c))
mean-Comparison a b c =
    ap mean (sym (expr.rolls-Comparison a b c))
    ∙ fold-roll-Expr ClauseMeaning Meaning Meaning GroupMeaning Meaning clause_meaning
    name_meaning form_meaning group_meaning step_meaning (Expr-F.Comparison a b c)

pub mean-Concat : (a : List Expr) → mean (expr.Concat a)
    ≡ form_meaning (Expr-F.Concat (map mean a))
mean-Concat a =
    ap mean (sym (expr.rolls-Concat a))
    ∙ fold-roll-Expr ClauseMeaning Meaning Meaning GroupMeaning Meaning clause_meaning
    name_meaning form_meaning group_meaning step_meaning (Expr-F.Concat a)

pub mean-Range : (a : Expr) (b : Expr) → mean (expr.Range a b)
    ≡ form_meaning (Expr-F.Range (mean a) (mean b))
mean-Range a b =
    ap mean (sym (expr.rolls-Range a b))
    ∙ fold-roll-Expr ClauseMeaning Meaning Meaning GroupMeaning Meaning clause_meaning
    name_meaning form_meaning group_meaning step_meaning (Expr-F.Range a b)

pub mean-Sum : (a : Expr) (b : List (Sign × Expr)) → mean (expr.Sum a b)
    ≡ form_meaning (Expr-F.Sum (mean a) (map (λ (x, y). (x, mean y)) b))
mean-Sum a b =
    ap mean (sym (expr.rolls-Sum a b))
    ∙ fold-roll-Expr ClauseMeaning Meaning Meaning GroupMeaning Meaning clause_meaning
    name_meaning form_meaning group_meaning step_meaning (Expr-F.Sum a b)

pub mean-Product : (a : Expr) (b : List (ProductOperator × Expr)) → mean (expr.Product a b)
    ≡ form_meaning (Expr-F.Product (mean a) (map (λ (x, y). (x, mean y)) b))
mean-Product a b =
    ap mean (sym (expr.rolls-Product a b))
    ∙ fold-roll-Expr ClauseMeaning Meaning Meaning GroupMeaning Meaning clause_meaning
    name_meaning form_meaning group_meaning step_meaning (Expr-F.Product a b)

pub mean-Union : (a : List Expr) → mean (expr.Union a) ≡ form_meaning (Expr-F.Union (map mean a))
mean-Union a =
    ap mean (sym (expr.rolls-Union a))
    ∙ fold-roll-Expr ClauseMeaning Meaning Meaning GroupMeaning Meaning clause_meaning
    name_meaning form_meaning group_meaning step_meaning (Expr-F.Union a)

pub mean-SetOperation : (a : Expr) (b : List (SetOperator × Expr)) → mean (expr.SetOperation a b)
    ≡ form_meaning (Expr-F.SetOperation (mean a) (map (λ (x, y). (x, mean y)) b))
mean-SetOperation a b =
    ap mean (sym (expr.rolls-SetOperation a b))
    ∙ fold-roll-Expr ClauseMeaning Meaning Meaning GroupMeaning Meaning clause_meaning
    name_meaning form_meaning group_meaning step_meaning (Expr-F.SetOperation a b)

pub mean-Unary : (a : List Sign) (b : Expr) → mean (expr.Unary a b)
    ≡ form_meaning (Expr-F.Unary a (mean b))
mean-Unary a b =
    ap mean (sym (expr.rolls-Unary a b))
    ∙ fold-roll-Expr ClauseMeaning Meaning Meaning GroupMeaning Meaning clause_meaning
    name_meaning form_meaning group_meaning step_meaning (Expr-F.Unary a b)

pub mean-Arrow : (a : Expr) (b : List (QName × List Expr)) → mean (expr.Arrow a b)
    ≡ form_meaning (Expr-F.Arrow (mean a) (map (λ (x, y). (x, map mean y)) b))
mean-Arrow a b =
    ap mean (sym (expr.rolls-Arrow a b))
    ∙ fold-roll-Expr ClauseMeaning Meaning Meaning GroupMeaning Meaning clause_meaning
    name_meaning form_meaning group_meaning step_meaning (Expr-F.Arrow a b)

pub mean-Map : (a : Expr) (b : List Expr) → mean (expr.Map a b)
    ≡ form_meaning (Expr-F.Map (mean a) (map mean b))
mean-Map a b =
    ap mean (sym (expr.rolls-Map a b))
    ∙ fold-roll-Expr ClauseMeaning Meaning Meaning GroupMeaning Meaning clause_meaning
    name_meaning form_meaning group_meaning step_meaning (Expr-F.Map a b)

pub mean-Root : mean expr.Root ≡ form_meaning Expr-F.Root
mean-Root =
    ap mean (sym expr.rolls-Root)
    ∙ fold-roll-Expr ClauseMeaning Meaning Meaning GroupMeaning Meaning clause_meaning
    name_meaning form_meaning group_meaning step_meaning Expr-F.Root

pub mean-Path : (a : PathStart) (b : Step) (c : List (Separator × Step)) → mean (expr.Path a b c)
    ≡ form_meaning (Expr-F.Path a (step_mean b) (map (λ (x, y). (x, step_mean y)) c))
mean-Path a b c =
    ap mean (sym (expr.rolls-Path a b c))
    ∙ fold-roll-Expr ClauseMeaning Meaning Meaning GroupMeaning Meaning clause_meaning
    name_meaning form_meaning group_meaning step_meaning (Expr-F.Path a b c)

pub mean-Int : (a : ℤ) → mean (expr.Int a) ≡ form_meaning (Expr-F.Int a)
mean-Int a =
    ap mean (sym (expr.rolls-Int a))
    ∙ fold-roll-Expr ClauseMeaning Meaning Meaning GroupMeaning Meaning clause_meaning
    name_meaning form_meaning group_meaning step_meaning (Expr-F.Int a)

pub mean-Dec : (a : ℤ) → mean (expr.Dec a) ≡ form_meaning (Expr-F.Dec a)
mean-Dec a =
    ap mean (sym (expr.rolls-Dec a))
    ∙ fold-roll-Expr ClauseMeaning Meaning Meaning GroupMeaning Meaning clause_meaning
    name_meaning form_meaning group_meaning step_meaning (Expr-F.Dec a)

pub mean-Str : (a : (List ℕ)) → mean (expr.Str a) ≡ form_meaning (Expr-F.Str a)
mean-Str a =
    ap mean (sym (expr.rolls-Str a))
    ∙ fold-roll-Expr ClauseMeaning Meaning Meaning GroupMeaning Meaning clause_meaning
    name_meaning form_meaning group_meaning step_meaning (Expr-F.Str a)

pub mean-Variable : (a : QName) → mean (expr.Variable a) ≡ form_meaning (Expr-F.«Expr::Variable» a)
mean-Variable a =
    ap mean (sym (expr.rolls-Variable a))
    ∙ fold-roll-Expr ClauseMeaning Meaning Meaning GroupMeaning Meaning clause_meaning
    name_meaning form_meaning group_meaning step_meaning (Expr-F.«Expr::Variable» a)

pub mean-ContextItem : mean expr.ContextItem ≡ form_meaning Expr-F.ContextItem
mean-ContextItem =
    ap mean (sym expr.rolls-ContextItem)
    ∙ fold-roll-Expr ClauseMeaning Meaning Meaning GroupMeaning Meaning clause_meaning
    name_meaning form_meaning group_meaning step_meaning Expr-F.ContextItem

pub mean-Call : (a : QName) (b : List Expr) → mean (expr.Call a b)
    ≡ form_meaning (Expr-F.Call a (map mean b))
mean-Call a b =
    ap mean (sym (expr.rolls-Call a b))
    ∙ fold-roll-Expr ClauseMeaning Meaning Meaning GroupMeaning Meaning clause_meaning
    name_meaning form_meaning group_meaning step_meaning (Expr-F.Call a b)

pub mean-Named : (a : NamedNode) (b : ConstructorName) (c : Expr) → mean (expr.Named a b c)
    ≡ form_meaning (Expr-F.Named a (name_mean b) (mean c))
mean-Named a b c =
    ap mean (sym (expr.rolls-Named a b c))
    ∙ fold-roll-Expr ClauseMeaning Meaning Meaning GroupMeaning Meaning clause_meaning
    name_meaning form_meaning group_meaning step_meaning (Expr-F.Named a b c)

pub mean-Unnamed : (a : UnnamedNode) (b : Expr) → mean (expr.Unnamed a b)
    ≡ form_meaning (Expr-F.Unnamed a (mean b))
mean-Unnamed a b =
    ap mean (sym (expr.rolls-Unnamed a b))
    ∙ fold-roll-Expr ClauseMeaning Meaning Meaning GroupMeaning Meaning clause_meaning
    name_meaning form_meaning group_meaning step_meaning (Expr-F.Unnamed a b)

pub name-Literal : (a : QName) → name_mean (written.Literal a)
    ≡ name_meaning (ConstructorName-F.Literal a)
name-Literal a =
    ap name_mean (sym (written.rolls-Literal a))
    ∙ fold-roll-ConstructorName ClauseMeaning Meaning Meaning GroupMeaning Meaning
    clause_meaning name_meaning form_meaning group_meaning step_meaning
    (ConstructorName-F.Literal a)

pub name-Computed : (a : Expr) → name_mean (written.Computed a)
    ≡ name_meaning (ConstructorName-F.Computed (mean a))
name-Computed a =
    ap name_mean (sym (written.rolls-Computed a))
    ∙ fold-roll-ConstructorName ClauseMeaning Meaning Meaning GroupMeaning Meaning
    clause_meaning name_meaning form_meaning group_meaning step_meaning
    (ConstructorName-F.Computed a)

pub clause-For : (a : List (QName × AllowingEmpty × Option QName × Expr)) →
    clause_mean (clause.For a)
    ≡ clause_meaning (Clause-F.For (map (λ (w, x, y, z). (w, x, y, mean z)) a))
clause-For a =
    ap clause_mean (sym (clause.rolls-For a))
    ∙ fold-roll-Clause ClauseMeaning Meaning Meaning GroupMeaning Meaning clause_meaning
    name_meaning form_meaning group_meaning step_meaning (Clause-F.For a)

pub clause-Let : (a : List (QName × Expr)) → clause_mean (clause.Let a)
    ≡ clause_meaning (Clause-F.Let (map (λ (x, y). (x, mean y)) a))
clause-Let a =
    ap clause_mean (sym (clause.rolls-Let a))
    ∙ fold-roll-Clause ClauseMeaning Meaning Meaning GroupMeaning Meaning clause_meaning
    name_meaning form_meaning group_meaning step_meaning (Clause-F.Let a)

pub clause-Filter : (a : Expr) → clause_mean (clause.Filter a)
    ≡ clause_meaning (Clause-F.Filter (mean a))
clause-Filter a =
    ap clause_mean (sym (clause.rolls-Filter a))
    ∙ fold-roll-Clause ClauseMeaning Meaning Meaning GroupMeaning Meaning clause_meaning
    name_meaning form_meaning group_meaning step_meaning (Clause-F.Filter a)

pub clause-Group : (a : List GroupSpec) → clause_mean (clause.Group a)
    ≡ clause_meaning (Clause-F.Group (map group_mean a))
clause-Group a =
    ap clause_mean (sym (clause.rolls-Group a))
    ∙ fold-roll-Clause ClauseMeaning Meaning Meaning GroupMeaning Meaning clause_meaning
    name_meaning form_meaning group_meaning step_meaning (Clause-F.Group a)

pub clause-Order : (a : List (Expr × OrderModifier)) → clause_mean (clause.Order a)
    ≡ clause_meaning (Clause-F.Order (map (λ (x, y). (mean x, y)) a))
clause-Order a =
    ap clause_mean (sym (clause.rolls-Order a))
    ∙ fold-roll-Clause ClauseMeaning Meaning Meaning GroupMeaning Meaning clause_meaning
    name_meaning form_meaning group_meaning step_meaning (Clause-F.Order a)

pub clause-Count : (a : QName) → clause_mean (clause.Count a)
    ≡ clause_meaning (Clause-F.Count a)
clause-Count a =
    ap clause_mean (sym (clause.rolls-Count a))
    ∙ fold-roll-Clause ClauseMeaning Meaning Meaning GroupMeaning Meaning clause_meaning
    name_meaning form_meaning group_meaning step_meaning (Clause-F.Count a)

pub grouping-Variable : (a : QName) → group_mean (grouping.Variable a)
    ≡ group_meaning (GroupSpec-F.«GroupSpec::Variable» a)
grouping-Variable a =
    ap group_mean (sym (grouping.rolls-Variable a))
    ∙ fold-roll-GroupSpec ClauseMeaning Meaning Meaning GroupMeaning Meaning clause_meaning
    name_meaning form_meaning group_meaning step_meaning
    (GroupSpec-F.«GroupSpec::Variable» a)

pub grouping-Assigned : (a : QName) (b : Expr) → group_mean (grouping.Assigned a b)
    ≡ group_meaning (GroupSpec-F.Assigned a (mean b))
grouping-Assigned a b =
    ap group_mean (sym (grouping.rolls-Assigned a b))
    ∙ fold-roll-GroupSpec ClauseMeaning Meaning Meaning GroupMeaning Meaning clause_meaning
    name_meaning form_meaning group_meaning step_meaning (GroupSpec-F.Assigned a b)

pub step-Axis : (a : AxisStep) (b : List Expr) → step_mean (step.Axis a b)
    ≡ step_meaning (Step-F.Axis a (map mean b))
step-Axis a b =
    ap step_mean (sym (step.rolls-Axis a b))
    ∙ fold-roll-Step ClauseMeaning Meaning Meaning GroupMeaning Meaning clause_meaning
    name_meaning form_meaning group_meaning step_meaning (Step-F.Axis a b)

pub step-Primary : (a : Expr) (b : List Expr) → step_mean (step.Primary a b)
    ≡ step_meaning (Step-F.Primary (mean a) (map mean b))
step-Primary a b =
    ap step_mean (sym (step.rolls-Primary a b))
    ∙ fold-roll-Step ClauseMeaning Meaning Meaning GroupMeaning Meaning clause_meaning
    name_meaning form_meaning group_meaning step_meaning (Step-F.Primary a b)
