-- Which form a normal form has, where its expression is a string, a call of strings or a path that
-- starts at such a call.
use Rattle.std.specs.Prelude.{◌≡◌, List, [], ◌∷◌, map, length, Some}
use Rattle.xq_atoms.specs.Text.{Text}
use Rattle.xq_expressions.specs.declared.names.QName.{QName}
use Rattle.xq_expressions.specs.declared.operators.AxisStep.{AxisStep}
use Rattle.xq_expressions.specs.declared.operators.PathStart.{PathStart}
use Rattle.xq_expressions.specs.declared.operators.PathStart.TheVariants.{Relative}
use Rattle.xq_expressions.specs.declared.operators.Separator.{Separator}
use Rattle.xq_expressions.specs.declared.expressions.Clause.{Clause}
use Rattle.xq_expressions.specs.declared.expressions.Clause.TheOpen.{Expr-F, Step-F}
use Rattle.xq_expressions.specs.declared.expressions.ConstructorName.{ConstructorName}
use Rattle.xq_expressions.specs.declared.expressions.Expr.{Expr, out-Expr}
use Rattle.xq_expressions.specs.declared.expressions.Expr.TheVariants as expr
use Rattle.xq_expressions.specs.declared.expressions.GroupSpec.{GroupSpec}
use Rattle.xq_expressions.specs.declared.expressions.Step.{Step, out-Step}
use Rattle.xq_expressions.specs.declared.signatures.Function.{Function}
use Rattle.xq_expressions.specs.declared.signatures.Function.TheVariants.{Doc}
use Rattle.xq_expressions.specs.Signatures.{function_named}
use Rattle.xq_meaning.specs.declared.normal_forms.Core.{Core}
use Rattle.xq_meaning.specs.declared.normal_forms.Core.TheVariants as core
use Rattle.xq_normal.specs.DocumentPaths.{written_out, after_slash, call_of_literal, path_of_steps}
use Rattle.xq_normal.specs.private.Parts.{admitted}

-- an expression, opened once, and a step
abbrev pub Form : Type 0
Form = Expr-F Clause ConstructorName Expr GroupSpec Step

abbrev pub StepForm : Type 0
StepForm = Step-F Clause ConstructorName Expr GroupSpec Step

-- strings stay strings
abbrev pub StayLiterals : List Expr → List Core → Type 0
StayLiterals es cs =
    (values : List Text) → es ≡ map expr.Str values → cs ≡ map core.Str values

-- a call of strings keeps its function and its strings
abbrev pub StaysCall : QName → List Expr → Core → Type 0
StaysCall name arguments c =
    (function : Function) (values : List Text) →
    admitted (function_named name.prefix name.local) (length arguments) ≡ Some function →
    arguments ≡ map expr.Str values → c ≡ core.Call function (map core.Str values)

-- a step without predicates
abbrev pub plain_step : AxisStep → Core
plain_step along = core.Step (written_out along).0 (written_out along).1 []

-- steps without predicates, each after one slash, stay as many
abbrev pub StaySteps : List (Separator × Step) → List Core → Type 0
StaySteps more cs =
    (steps : List AxisStep) → more ≡ map after_slash steps → cs ≡ map plain_step steps

-- a start with something after it is the path of both
abbrev pub GoesOn : Core → List Core → Core → Type 0
GoesOn start found c =
    (first : Core) (more : List Core) → found ≡ first ∷ more → c ≡ core.Path start found

-- a path from a document keeps the call and the steps
abbrev pub StaysPath : PathStart → Step → List (Separator × Step) → Core → Type 0
StaysPath start first more c =
    (name : QName) (address : Text) (s : AxisStep) (steps : List AxisStep) →
    function_named name.prefix name.local ≡ Some Doc →
    start ≡ Relative → first ≡ call_of_literal name address → more ≡ map after_slash (s ∷ steps) →
    c ≡ path_of_steps address (map written_out (s ∷ steps))

abbrev pub HasShapeOf : Form → Core → Type 0
HasShapeOf (Expr-F.Str value) c = c ≡ core.Str value
HasShapeOf (Expr-F.Call name arguments) c = StaysCall name arguments c
HasShapeOf (Expr-F.Path start first more) c = StaysPath start first more c
HasShapeOf other c = Unit {0}

abbrev pub HasShape : Expr → Core → Type 0
HasShape e c = HasShapeOf (out-Expr e) c

-- a step without predicates is its axis step, or its primary expression
abbrev pub StaysStepOf : StepForm → Core → Type 0
StaysStepOf (Step-F.Axis along predicates) c = predicates ≡ [] → c ≡ plain_step along
StaysStepOf (Step-F.Primary primary predicates) c = predicates ≡ [] → HasShape primary c

abbrev pub StaysStep : Step → Core → Type 0
StaysStep s c = StaysStepOf (out-Step s) c
