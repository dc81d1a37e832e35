use Rattle.std.proofs.Common.{◌≡◌, length, map, drop}
use Rattle.xq_trees.specs.Tuples.{Tuple}
use Rattle.xq_meaning.specs.Items.{Item}
use Rattle.xq_meaning.specs.Doing.{one_more, for_each}
use Rattle.xq_meaning.specs.Forms as Forms
use Rattle.xq_meaning.specs.PlanMeaning.{at_tuple, keys_equal}
use Rattle.xq_operators.specs.Views.{tuple_at, tuples_at, frame_at, FrameIn, TuplesIn, Goes}
use Rattle.xq_eval.proofs.Loops.{Turns}
use Rattle.xq_eval.proofs.Steps.{same_tests, any_tests}
use Rattle.xq_eval.proofs.pairs.keep_equal.Given as goal

abbrev pub invariant-loop-index : goal.invariant-loop-index
invariant-loop-index g l =
    let old = g.W.TreeSource.forest l.fn.world in
    let now = g.W.TreeSource.forest l.world in
    let clean = g.W.TreeSource.is_clean l.world in
    let frame = frame_at old l.frame in
    let act = λ (t : Tuple Item). Forms.tested (keys_equal l.join) (at_tuple frame t) in
    record {
      goes : Goes old now (g.W.TreeSource.is_clean l.fn.world) clean;
      turns : Turns same_tests any_tests (one_more act) (FrameIn old l.frame × TuplesIn old l.fn.tuples) clean l.tests.items (map (tuple_at old) (drop l.index l.fn.tuples)) now (for_each act (tuples_at old l.fn.tuples) old);
      long : length l.tests.items ≡ l.index;
    }
