use Rattle.std.proofs.Common.{◌≡◌, suc, length, map, drop}
use Rattle.xq_trees.specs.Items.{item_view, item_views}
use Rattle.xq_meaning.specs.Doing.{more, collected}
use Rattle.xq_meaning.specs.Forms as Forms
use Rattle.xq_meaning.specs.Functions.{Focus as Spot}
use Rattle.xq_meaning.specs.PlanMeaning.{Frame, plan_mean}
use Rattle.xq_meaning.specs.Readings.{items_at, AreIn}
use Rattle.xq_meaning.specs.Steps.{focuses, focuses_from}
use Rattle.xq_eval.proofs.Loops.{Turns}
use Rattle.xq_eval.proofs.told.call_per_node.Given as goal

abbrev pub invariant-loop-item : goal.invariant-loop-item
invariant-loop-item g l =
    let old = g.L.TreeSource.forest l.fn.source in
    let now = g.L.TreeSource.forest l.source in
    let clean = g.L.TreeSource.is_clean l.source in
    let xs = map item_view l.items in
    record {
      keeps : now ≡ old;
      was_clean : clean → g.L.TreeSource.is_clean l.fn.source;
      turns : (frame : Frame) → Turns items_at AreIn (more (λ (spot : Spot). plan_mean l.part (Forms.in_focus frame spot))) (AreIn old xs) clean (item_views l.found) (focuses_from (suc l.item-index) (length l.items) (items_at old (map item_view (drop l.item-index l.items)))) now (collected (λ spot. plan_mean l.part (Forms.in_focus frame spot)) (focuses (items_at old xs)) old);
    }
