use Rattle.std.proofs.Common.{◌≡◌, map, drop, take}
use Rattle.xq_trees.specs.Items.{item_view, item_views}
use Rattle.xq_tuples.specs.Views.{values_of}
use Rattle.xq_meaning.specs.Doing.{more, collected}
use Rattle.xq_meaning.specs.PlanMeaning.{if_equal}
use Rattle.xq_meaning.specs.Readings.{items_at, AreIn}
use Rattle.xq_operators.specs.Views.{tuple_at, frame_at, FrameIn, TupleIn, Goes}
use Rattle.xq_eval.proofs.Loops.{Turns}
use Rattle.xq_eval.proofs.groups.equal_among.Given as goal

abbrev pub invariant-loop-item : goal.invariant-loop-item
invariant-loop-item g l =
    let old = g.W.TreeSource.forest l.fn.world in
    let now = g.W.TreeSource.forest l.world in
    let clean = g.W.TreeSource.is_clean l.world in
    let tuple = values_of l.tuple in
    let act = if_equal l.join (frame_at old l.frame) (tuple_at old tuple) in
    record {
      goes : Goes old now (g.W.TreeSource.is_clean l.fn.world) clean;
      turns : Turns items_at AreIn (more act) (FrameIn old l.frame × TupleIn old tuple × AreIn old (map item_view l.items)) clean (item_views l.found) (items_at old (map item_view (drop l.item-index l.items))) now (collected act (items_at old (map item_view l.items)) old);
      in_slots : take l.count (values_of l.slots.items) ≡ tuple;
    }
