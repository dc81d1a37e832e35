use Rattle.std.proofs.Common.{◌≡◌, ◌++◌, map, drop}
use Rattle.std.specs.Prelude.{filter}
use Rattle.xq_trees.specs.Items.{item_view, item_views}
use Rattle.xq_meaning.specs.Readings.{AreIn}
use Rattle.xq_joins.specs.Keyed.{passes_key}
use Rattle.xq_joins.specs.private.TextSets.{IsSetFor}
use Rattle.xq_joins.proofs.keyed.keep_by_key.Given as goal

-- those that were kept, and what the test keeps of the items that are left
abbrev pub invariant-loop-item : goal.invariant-loop-item
invariant-loop-item g l =
    let old = g.L.TreeSource.forest l.fn.source in
    let clean = g.L.TreeSource.is_clean l.source in
    record {
      keeps : g.L.TreeSource.forest l.source ≡ old;
      known : IsSetFor l.known l.found;
      was_clean : clean → g.L.TreeSource.is_clean l.fn.source;
      kept : clean → AreIn old (map item_view l.items)
          → filter (passes_key old l.found) (map item_view l.items) ≡ item_views l.kept ++ filter (passes_key old l.found) (map item_view (drop l.item-index l.items));
    }
