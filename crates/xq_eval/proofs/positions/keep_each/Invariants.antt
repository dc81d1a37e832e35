use Rattle.std.proofs.Common.{◌≡◌, List, map, drop, suc, length}
use Rattle.xq_trees.specs.Items.{item_view, item_views}
use Rattle.xq_trees.specs.Tree.{Tree}
use Rattle.xq_meaning.specs.declared.plans.Plan.{Plan}
use Rattle.xq_meaning.specs.Doing.{in_turn, more}
use Rattle.xq_meaning.specs.Forms as Forms
use Rattle.xq_meaning.specs.PlanMeaning.{Frame, plan_mean}
use Rattle.xq_meaning.specs.Readings.{items_at, AreIn}
use Rattle.xq_meaning.specs.Steps.{focuses_from}
use Rattle.xq_eval.specs.private.Positions.{IsPositionalIn}
use Rattle.xq_eval.proofs.positions.keep_each.Given as goal

abbrev pub invariant-loop-index : goal.invariant-loop-index
invariant-loop-index l =
    (trees : List Tree) (frame : Frame) (p : Plan) → IsPositionalIn trees frame p (length l.items) l.value → AreIn trees (map item_view l.items)
    → AreIn trees (item_views l.kept)
    × (in_turn (more (Forms.passed (plan_mean p) frame)) (items_at trees (item_views l.kept)) (focuses_from (suc l.index) (length l.items) (items_at trees (map item_view (drop l.index l.items)))) trees
    ≡ Forms.filtered frame (items_at trees (map item_view l.items)) (plan_mean p) trees)
