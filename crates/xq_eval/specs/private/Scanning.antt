-- Plans that read nothing, or a document by scans alone.
use Rattle.std.specs.Prelude.{◌≡◌, List, [], ◌∷◌}
use Rattle.xq_atoms.specs.Text.{Text}
use Rattle.xq_trees.specs.declared.Axis.{Axis}
use Rattle.xq_trees.specs.Tree.{Tree}
use Rattle.xq_sources.specs.Meters.{Readings}
use Rattle.xq_expressions.specs.declared.signatures.Function.TheVariants.{Doc}
use Rattle.xq_meaning.specs.declared.node_tests.Test.{Test}
use Rattle.xq_meaning.specs.declared.plans.Plan.{Plan}
use Rattle.xq_meaning.specs.declared.plans.Plan.TheVariants as plan
use Rattle.xq_meaning.specs.declared.plans.PlanStep.{PlanStep}
use Rattle.xq_meaning.specs.declared.plans.PlanStep.TheVariants as step
use Rattle.xq_eval.specs.Reads.{ReadsItsDocument}

-- a string literal
abbrev pub IsLiteral : Plan → Type 0
IsLiteral p = (t : Text) × (p ≡ plan.Str t)

-- `doc` of one
abbrev pub IsDocument : Plan → Type 0
IsDocument p = (t : Text) × (p ≡ plan.Call Doc (plan.Str t ∷ []))

-- a step without predicates, after a slash
abbrev pub IsScan : PlanStep → Type 0
IsScan s = (axis : Axis) × (test : Test) × (s ≡ step.Scan axis test)

-- for a literal, and for the document at it, nothing is read; for scans of it as much as they may
pub record Scans (p : Plan) (addresses : List Text) (trees : List Tree)
    (before after : Readings) : Type 0 where
  pub literal : IsLiteral p → after ≡ before
  pub document : IsDocument p → after ≡ before
  pub path : ReadsItsDocument p addresses trees before after
