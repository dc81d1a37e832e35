use Rattle.std.proofs.Common.{◌≡◌, map, drop}
use Rattle.xq_trees.specs.Items.{item_view}
use Rattle.xq_meaning.specs.Readings.{AreIn}
use Rattle.xq_joins.specs.Keyed.{passes_key}
use Rattle.xq_joins.specs.private.Keyed.{decided}
use Rattle.xq_joins.proofs.decisions.some_decides.Given as goal

-- the items that are left decide as all do
abbrev pub invariant-loop-item : goal.invariant-loop-item
invariant-loop-item g l =
    let old = g.L.TreeSource.forest l.fn.source in
    let clean = g.L.TreeSource.is_clean l.source in
    record {
      keeps : g.L.TreeSource.forest l.source ≡ old;
      was_clean : clean → g.L.TreeSource.is_clean l.fn.source;
      left : clean → AreIn old (map item_view l.items)
          → decided l.wanted (map (passes_key old l.found) (map item_view l.items)) ≡ decided l.wanted (map (passes_key old l.found) (map item_view (drop l.item-index l.items)));
    }
