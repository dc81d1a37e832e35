-- Which plan a path has that scans a document.
use Rattle.std.specs.Prelude.{◌≡◌, List, [], ◌∷◌, map}
use Rattle.xq_atoms.specs.Text.{Text}
use Rattle.xq_trees.specs.declared.Axis.{Axis}
use Rattle.xq_expressions.specs.declared.signatures.Function.TheVariants.{Doc}
use Rattle.xq_meaning.specs.declared.node_tests.Test.{Test}
use Rattle.xq_meaning.specs.declared.normal_forms.Core.{Core}
use Rattle.xq_meaning.specs.declared.normal_forms.Core.TheVariants as core
use Rattle.xq_meaning.specs.declared.plans.Plan.{Plan}
use Rattle.xq_meaning.specs.declared.plans.Plan.TheVariants as plan
use Rattle.xq_meaning.specs.declared.plans.PlanStep.TheVariants as step

-- `doc("A")/S1/S2..`, where no step has predicates
abbrev pub path_of_steps : Text → List (Axis × Test) → Core
path_of_steps address steps =
    core.Path (core.Call Doc (core.Str address ∷ [])) (map (λ s. core.Step s.0 s.1 []) steps)

-- that document, and then as many scans, one after another
abbrev pub path_of_scans : Text → List (Axis × Test) → Plan
path_of_scans address steps =
    plan.Path (plan.Call Doc (plan.Str address ∷ [])) (map (λ s. step.Scan s.0 s.1) steps)

-- where the normal form is such a path, the plan is its scans
abbrev pub ScansDocument : Core → Plan → Type 0
ScansDocument c p =
    (address : Text) (steps : List (Axis × Test)) → c ≡ path_of_steps address steps →
    p ≡ path_of_scans address steps
