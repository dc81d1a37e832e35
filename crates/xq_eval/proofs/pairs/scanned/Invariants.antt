use Rattle.std.proofs.Common.{drop}
use Rattle.xq_trees.specs.Items.{item_views}
use Rattle.xq_meaning.specs.Doing.{in_turn}
use Rattle.xq_meaning.specs.Readings.{items_at, AreIn}
use Rattle.xq_operators.specs.Views.{Goes}
use Rattle.xq_eval.specs.private.Joining.{scan_one}
use Rattle.xq_eval.proofs.Loops.{Turns}
use Rattle.xq_eval.proofs.pairs.scanned.Given as goal

abbrev pub invariant-loop-axis : goal.invariant-loop-axis
invariant-loop-axis g l =
    let old = g.W.TreeSource.forest l.fn.world in
    let now = g.W.TreeSource.forest l.world in
    let start = item_views l.fn.start in
    record {
      goes : Goes old now (g.W.TreeSource.is_clean l.fn.world) (g.W.TreeSource.is_clean l.world);
      turns : Turns items_at AreIn scan_one (AreIn old start) (g.W.TreeSource.is_clean l.world) (item_views l.items) (drop l.axis-index l.scans) now (in_turn scan_one (items_at old start) l.scans old);
    }
