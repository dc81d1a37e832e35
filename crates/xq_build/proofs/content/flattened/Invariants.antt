use Rattle.std.proofs.Common.{◌≡◌, map, drop, true}
use Rattle.std.specs.Prelude.{string_bytes, None, []}
use Rattle.std.specs.Option.{option_map}
use Rattle.xq_trees.specs.Items.{item_view}
use Rattle.xq_trees.specs.Levels.{flat}
use Rattle.xq_meaning.specs.Readings.{items_at}
use Rattle.xq_build.specs.private.Content.{so_far, flattened_with, Childless}
use Rattle.xq_build.specs.private.Surplus.{Alike, AreSeen, is_full}
use Rattle.xq_build.proofs.content.flattened.Given as goal

abbrev pub invariant-loop-item : goal.invariant-loop-item
invariant-loop-item g l =
    let trees = g.L.TreeSource.forest l.fn.source in
    let left = items_at trees (map item_view (drop l.item-index l.items)) in
    let all = items_at trees (map item_view l.items) in
    record {
      keeps : g.L.TreeSource.forest l.source ≡ g.L.TreeSource.forest l.fn.source;
      was_clean : g.L.TreeSource.is_clean l.source → g.L.TreeSource.is_clean l.fn.source;
      is : g.L.TreeSource.is_clean l.source → Alike (so_far trees (map flat l.rows.rows) (option_map string_bytes l.run) left) (so_far trees [] None all);
      childless : g.L.TreeSource.is_clean l.source → Childless (flattened_with trees (option_map string_bytes l.run) left) → Childless (flattened_with trees None all);
      full : g.L.TreeSource.is_clean l.source → l.gauge.full ≡ true → is_full (map flat l.rows.rows) ≡ true;
      seen : g.L.TreeSource.is_clean l.source → AreSeen trees (map flat l.rows.rows) l.seen.keys;
    }
