-- Comparisons of `position()` with a number (XQuery 3.1, 3.3.3 and 3.7).
use Rattle.std.specs.Prelude.{◌≡◌, ℤ, List, [], ◌∷◌, ◌⊎◌, Option}
use Rattle.xq_atoms.specs.Text.{Text}
use Rattle.xq_expressions.specs.declared.operators.Relation.{Relation}
use Rattle.xq_expressions.specs.declared.operators.Relation.TheVariants as relation
use Rattle.xq_expressions.specs.declared.operators.ComparisonOperator.TheVariants as comparing
use Rattle.xq_expressions.specs.declared.signatures.Function.TheVariants as function
use Rattle.xq_trees.specs.Tree.{Tree}
use Rattle.xq_meaning.specs.declared.operators.Operator.TheVariants as operator
use Rattle.xq_meaning.specs.declared.plans.Plan.{Plan}
use Rattle.xq_meaning.specs.declared.plans.Plan.TheVariants as plan
use Rattle.xq_meaning.specs.Functions.{Focus}
use Rattle.xq_meaning.specs.PlanMeaning.{Slots, plan_mean}
use Rattle.xq_meaning.specs.Same.{frame_of}
use Rattle.xq_optimise.specs.private.Parts.{general_comparison}

-- a comparison of the values of two parts
abbrev pub value_comparison : Relation → Plan → Plan → Plan
value_comparison by p q =
    plan.Chain p ((operator.Comparison (comparing.Value by), q) ∷ [])

-- the part compares two others, by their values or by pairs
abbrev pub Compares : Relation → Plan → Plan → Plan → Type 0
Compares by p q r = (r ≡ general_comparison by p q) ⊎ (r ≡ value_comparison by p q)

-- the relation of the right operand to the left one
abbrev pub turned : Relation → Relation
turned relation.Equal = relation.Equal
turned relation.NotEqual = relation.NotEqual
turned relation.Less = relation.Greater
turned relation.LessEqual = relation.GreaterEqual
turned relation.Greater = relation.Less
turned relation.GreaterEqual = relation.LessEqual

-- `position()`
abbrev pub position_call : Plan
position_call = plan.Call function.Position []

-- `position()`, compared with a number
abbrev pub position_comparison : Relation → ℤ → Plan
position_comparison by n = general_comparison by position_call (plan.Int n)

-- in every frame, whatever the slots hold, the part gives what that comparison gives
abbrev pub TestsPosition : Relation → ℤ → Plan → Type 0
TestsPosition by n p =
    (slots : Slots) (focus : Option Focus) (addresses : List Text) (trees : List Tree) →
    plan_mean (position_comparison by n) (frame_of slots focus addresses) trees
    ≡ plan_mean p (frame_of slots focus addresses) trees
