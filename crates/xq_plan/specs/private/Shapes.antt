-- Which form a plan has, where its normal form is a string, a call, a step or a path.
use Rattle.std.specs.Prelude.{◌≡◌, List, [], Option, Some, None}
use Rattle.xq_atoms.specs.Text.{Text}
use Rattle.xq_trees.specs.declared.Axis.{Axis}
use Rattle.xq_expressions.specs.declared.signatures.Function.{Function}
use Rattle.xq_meaning.specs.declared.node_tests.Test.{Test}
use Rattle.xq_meaning.specs.declared.normal_forms.Core.{Core, out-Core}
use Rattle.xq_meaning.specs.declared.normal_forms.Core.TheOpen.{Core-F}
use Rattle.xq_meaning.specs.declared.normal_forms.CoreClause.{CoreClause}
use Rattle.xq_meaning.specs.declared.plans.Plan.{Plan}
use Rattle.xq_meaning.specs.declared.plans.Plan.TheVariants as plan
use Rattle.xq_meaning.specs.declared.plans.PlanStep.{PlanStep}
use Rattle.xq_meaning.specs.declared.plans.PlanStep.TheVariants as step
use Rattle.xq_plan.specs.private.Plans.{AreAll}

-- what holds of a value, where there is one
abbrev pub Where : {A : Type 0} → Option A → (A → Type 0) → Type 0
Where None P = Unit {0}
Where (Some x) P = P x

-- a normal form, opened once
abbrev pub Form : Type 0
Form = Core-F Core CoreClause

abbrev pub literal : Form → Option Text
literal (Core-F.Str value) = Some value
literal other = None

abbrev pub call : Form → Option (Function × List Core)
call (Core-F.Call function parts) = Some (function, parts)
call other = None

-- a step without predicates
abbrev pub plain_step : Form → Option (Axis × Test)
plain_step (Core-F.Step axis test []) = Some (axis, test)
plain_step other = None

abbrev pub path : Form → Option (Core × List Core)
path (Core-F.Path start parts) = Some (start, parts)
path other = None

abbrev pub IsLiteral : Core → Plan → Type 0
IsLiteral c p = Where (literal (out-Core c)) (λ value. p ≡ plan.Str value)

abbrev pub IsCallOf : Form → Plan → Type 0
IsCallOf x p =
    Where (call x) (λ it. (ps : List Plan) × (p ≡ plan.Call it.0 ps) × AreAll IsLiteral it.1 ps)

abbrev pub IsCall : Core → Plan → Type 0
IsCall c p = IsCallOf (out-Core c) p

abbrev pub IsPlainStep : Form → Plan → Type 0
IsPlainStep x p = Where (plain_step x) (λ it. p ≡ plan.Step it.0 it.1 [])

-- what follows a slash
abbrev pub IsScan : Core → PlanStep → Type 0
IsScan c s = Where (plain_step (out-Core c)) (λ it. s ≡ step.Scan it.0 it.1)

abbrev pub BecomesScan : Plan → PlanStep → Type 0
BecomesScan p s = (axis : Axis) (test : Test) → p ≡ plan.Step axis test [] → s ≡ step.Scan axis test

abbrev pub IsPath : Form → Plan → Type 0
IsPath x p =
    Where (path x)
    (λ it. (q : Plan) × (ss : List PlanStep) × (p ≡ plan.Path q ss) × IsCall it.0 q
    × AreAll IsScan it.1 ss)

abbrev pub HasShapeOf : Form → Plan → Type 0
HasShapeOf x p =
    Where (literal x) (λ value. p ≡ plan.Str value) × IsCallOf x p × IsPlainStep x p × IsPath x p

abbrev pub HasShape : Core → Plan → Type 0
HasShape c p = HasShapeOf (out-Core c) p
