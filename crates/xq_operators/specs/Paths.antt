-- Parts of plans whose value is one node that is at hand.
use Rattle.std.specs.Prelude.{◌≡◌, List, [], ◌∷◌, Ok}
use Rattle.xq_trees.specs.Tree.{Tree}
use Rattle.xq_trees.specs.declared.items.Node.{Node as Spot}
use Rattle.xq_sources.specs.Sources.{HasNode}
use Rattle.xq_expressions.specs.declared.signatures.Function.{Function}
use Rattle.xq_meaning.specs.declared.plans.Plan.{Plan}
use Rattle.xq_meaning.specs.declared.plans.Plan.TheVariants as plan
use Rattle.xq_meaning.specs.Items.{Node}
use Rattle.xq_meaning.specs.Readings.{node_at}
use Rattle.xq_meaning.specs.PlanMeaning.{plan_mean}
use Rattle.xq_operators.specs.declared.contexts.EvalContext.{EvalContext}
use Rattle.xq_operators.specs.Views.{frame_at, FrameIn}

-- the plan is no call, and in the frame, over any trees that have its nodes, it means this node
pub record IsHeld (frame : EvalContext) (p : Plan) (n : Spot) : Type 0 where
  pub no_call : (function : Function) (parts : List Plan) → p ≡ plan.Call function parts → ⊥
  pub there : (trees : List Tree) → FrameIn trees frame → HasNode trees n.tree n.pre
  pub value : (trees : List Tree) → FrameIn trees frame
      → plan_mean p (frame_at trees frame) trees ≡ (Ok (Node (node_at trees n) ∷ []), trees)
