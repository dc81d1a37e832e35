-- What is given where something was found, and steps with a test.
use Rattle.std.specs.Prelude.{◌≡◌, List, [], ◌∷◌, Option, Some, None, Result, Ok, Err}
use Rattle.std.specs.Global.{Vec}
use Rattle.xq_atoms.specs.declared.refusals.Fault.{Fault}
use Rattle.xq_trees.specs.declared.items.Item.{Item as Held}
use Rattle.xq_trees.specs.declared.Axis.TheVariants.{Child}
use Rattle.xq_trees.specs.Items.{ItemView}
use Rattle.xq_trees.specs.Tree.{Tree}
use Rattle.xq_trees.specs.Tuples.{Tuple}
use Rattle.xq_meaning.specs.declared.plans.Plan.{Plan}
use Rattle.xq_meaning.specs.declared.plans.Plan.TheVariants.{Step}
use Rattle.xq_meaning.specs.Items.{Item}
use Rattle.xq_meaning.specs.Doing.{Outcome}
use Rattle.xq_operators.specs.Views.{GivesSequence}
use Rattle.xq_joins.specs.Equalities.{IsValueTest}
use Rattle.xq_eval.specs.declared.texts.TextStep.{TextStep}

-- a sequence that was found, or the refusal, is what the outcome says
abbrev pub GivesFound : Outcome (List Item) → List Tree → Result (Option (Vec Held)) Fault → Type 0
GivesFound outcome trees (Ok (Some items)) = GivesSequence outcome trees (Ok items)
GivesFound outcome trees (Ok None) = Unit {0}
GivesFound outcome trees (Err fault) = GivesSequence outcome trees (Err fault)

-- the part is a step to children whose only predicate is the test
pub record IsValueStep (slots : Tuple ItemView) (step : TextStep) (part : Plan) : Type 0 where
  pub predicate : Plan
  pub part_is : part ≡ Step Child step.test.now (predicate ∷ [])
  pub is_test : IsValueTest slots step.predicate predicate
