-- How much of a document a query reads that scans it.
use Rattle.std.specs.Prelude.{ℕ, ◌≡◌, ◌*◌, List, [], ◌∷◌, map, length, if◌then◌else◌}
use Rattle.xq_atoms.specs.Text.{Text, text_eq}
use Rattle.xq_trees.specs.declared.Axis.{Axis}
use Rattle.xq_trees.specs.Forest.{count}
use Rattle.xq_trees.specs.Tree.{Tree, nodes}
use Rattle.xq_sources.specs.Meters.{Readings}
use Rattle.xq_expressions.specs.declared.signatures.Function.TheVariants.{Doc}
use Rattle.xq_meaning.specs.declared.node_tests.Test.{Test}
use Rattle.xq_meaning.specs.declared.plans.Plan.{Plan}
use Rattle.xq_meaning.specs.declared.plans.Plan.TheVariants as plan
use Rattle.xq_meaning.specs.declared.plans.PlanStep.TheVariants as step
use Rattle.xq_operators.specs.Reads.{HasGrown}

-- `doc("A")`, and then as many scans, each after a slash
abbrev pub path_of_scans : Text → List (Axis × Test) → Plan
path_of_scans address steps =
    plan.Path (plan.Call Doc (plan.Str address ∷ [])) (map (λ s. step.Scan s.0 s.1) steps)

-- how many rows the document at the address has; none where there is no such document. The
-- documents are the first trees, in the order of their addresses
abbrev pub rows_at : Text → List Text → List Tree → ℕ
rows_at address [] trees = 0
rows_at address (a ∷ as') [] = 0
rows_at address (a ∷ as') (t ∷ ts) =
    if text_eq a address then count (nodes t) else rows_at address as' ts

-- where the plan is a document and k scans, each of the two counts has grown by at most k times the
-- rows of that document
abbrev pub ReadsItsDocument : Plan → List Text → List Tree → Readings → Readings → Type 0
ReadsItsDocument p addresses trees before after =
    (address : Text) (steps : List (Axis × Test)) → p ≡ path_of_scans address steps →
    HasGrown before after (length steps * rows_at address addresses trees)
