-- The forms of plans that compare keys.
use Rattle.std.specs.Prelude.{◌≡◌, ℕ, List, [], ◌∷◌, ◌⊎◌}
use Rattle.std.specs.List.{AllByRecursion}
use Rattle.xq_trees.specs.declared.Axis.{Axis}
use Rattle.xq_expressions.specs.declared.operators.ComparisonOperator.{ComparisonOperator}
use Rattle.xq_expressions.specs.declared.operators.ComparisonOperator.TheVariants as comparing
use Rattle.xq_expressions.specs.declared.operators.Relation.TheVariants as relation
use Rattle.xq_meaning.specs.declared.node_tests.Test.{Test}
use Rattle.xq_meaning.specs.declared.operators.Operator.TheVariants as operator
use Rattle.xq_meaning.specs.declared.plans.Plan.{Plan}
use Rattle.xq_meaning.specs.declared.plans.Plan.TheVariants as plan
use Rattle.xq_meaning.specs.declared.plans.PlanStep.{PlanStep}
use Rattle.xq_meaning.specs.declared.plans.PlanStep.TheVariants as step

-- a step without predicates, after a slash
abbrev pub IsScan : PlanStep → Type 0
IsScan s = (axis : Axis) × (test : Test) × (s ≡ step.Scan axis test)

-- a slot, or scans from it
pub record IsKey (slot : ℕ) (steps : List PlanStep) (p : Plan) : Type 0 where
  pub form : ((p ≡ plan.Slot slot) × (steps ≡ [])) ⊎ (p ≡ plan.Path (plan.Slot slot) steps)
  pub scans : AllByRecursion IsScan steps

-- a comparison of two plans
abbrev pub comparison : ComparisonOperator → Plan → Plan → Plan
comparison op first second = plan.Chain first ((operator.Comparison op, second) ∷ [])

-- a general comparison of two plans for equality
abbrev pub equality : Plan → Plan → Plan
equality = comparison (comparing.General relation.Equal)

-- a value comparison of two plans for equality
abbrev pub value_equality : Plan → Plan → Plan
value_equality = comparison (comparing.Value relation.Equal)
