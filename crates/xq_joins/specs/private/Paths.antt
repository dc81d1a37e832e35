-- Paths from a document.
use Rattle.std.specs.Prelude.{◌≡◌, ◌<◌, List, [], ◌∷◌, length, map, Ok}
use Rattle.xq_atoms.specs.Text.{Text}
use Rattle.xq_trees.specs.declared.items.Node.{Node as Spot}
use Rattle.xq_trees.specs.Tree.{Tree}
use Rattle.xq_sources.specs.Sources.{HasNode}
use Rattle.xq_meaning.specs.declared.plans.Plan.{Plan}
use Rattle.xq_meaning.specs.Doing.{in_turn}
use Rattle.xq_meaning.specs.Functions as Functions
use Rattle.xq_meaning.specs.Items.{Node, root_of}
use Rattle.xq_meaning.specs.PlanMeaning.{plan_mean, plan_step_mean, next_step}
use Rattle.xq_meaning.specs.Readings.{node_at}
use Rattle.xq_operators.specs.declared.contexts.EvalContext.{EvalContext}
use Rattle.xq_operators.specs.Views.{frame_at, FrameIn}
use Rattle.xq_joins.specs.declared.paths.DocumentPath.{DocumentPath}
use Rattle.xq_joins.specs.Paths.{steps_of}

-- the node is the root of the tree of the document at the address
pub record IsDocument (addresses : List Text) (address : Text) (n : Spot) : Type 0 where
  pub first : n.pre ≡ 0
  pub within : n.tree < length addresses
  pub is : Functions.document addresses address ≡ Ok (Node (root_of n.tree) ∷ [])

-- in the frame, over any trees that have its nodes, the plan gives what the steps lead to from the
-- document
pub record IsDocumentPath (frame : EvalContext) (path : DocumentPath) (p : Plan) : Type 0 where
  pub steps : steps_of p ≡ length path.steps.now
  pub there : (trees : List Tree) → FrameIn trees frame
      → HasNode trees path.document.tree path.document.pre
  pub gives : (trees : List Tree) → FrameIn trees frame
      → plan_mean p (frame_at trees frame) trees
      ≡ in_turn (next_step (frame_at trees frame)) (Node (node_at trees path.document) ∷ [])
      (map plan_step_mean path.steps.now) trees
