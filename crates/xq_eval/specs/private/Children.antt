-- A step to children with predicates.
use Rattle.std.specs.Prelude.{◌≡◌, Option, Some}
use Rattle.xq_meaning.specs.declared.plans.Plan.TheVariants.{Step}
use Rattle.xq_meaning.specs.declared.plans.PlanStep.{PlanStep}
use Rattle.xq_meaning.specs.declared.plans.PlanStep.TheVariants.{Each}
use Rattle.xq_trees.specs.declared.Axis.TheVariants.{Child}
use Rattle.xq_eval.specs.declared.texts.ChosenChildren.{ChosenChildren}

-- there is a step, and it is this one
abbrev pub IsToChildren : ChosenChildren → Option PlanStep → Type 0
IsToChildren found next = next ≡ Some (Each (Step Child found.test.now found.predicates.now))
