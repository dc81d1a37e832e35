-- Steps that are scans, one after another from one node.
use Rattle.std.specs.Prelude.{ℕ, ◌≡◌, List, [], ◌∷◌, map, Ok}
use Rattle.xq_axes.specs.Many.{spot}
use Rattle.xq_trees.specs.declared.items.Node.{Node as Spot}
use Rattle.xq_trees.specs.Items.{ItemView, Place as NodeAt}
use Rattle.xq_trees.specs.Tree.{Tree}
use Rattle.xq_meaning.specs.Doing.{in_turn}
use Rattle.xq_meaning.specs.Items.{Node}
use Rattle.xq_meaning.specs.PlanMeaning.{Frame, plan_step_mean, next_step}
use Rattle.xq_meaning.specs.Readings.{node_at, items_at, AreIn}
use Rattle.xq_meaning.specs.declared.plans.PlanStep.{PlanStep}
use Rattle.xq_operators.specs.Reads.{AreOf}

-- the nodes of a tree at these places, in their order, as items of code
abbrev pub views_of : ℕ → List ℕ → List ItemView
views_of tree places = map (λ p. NodeAt (spot tree p)) places

-- in any frame these steps lead from the node to these items, nodes of its tree, and leave the trees
pub record ScansGive (trees : List Tree) (n : Spot) (steps : List PlanStep) (views : List ItemView)
    : Type 0 where
  pub there : AreIn trees views
  pub of_tree : AreOf trees n.tree views
  pub value : (frame : Frame)
      → in_turn (next_step frame) (Node (node_at trees n) ∷ []) (map plan_step_mean steps) trees
      ≡ (Ok (items_at trees views), trees)
