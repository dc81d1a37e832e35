use Rattle.std.specs.Prelude.{sum_by}
use Rattle.std.proofs.Common.{◌≡◌, ◌≤◌, ◌++◌, ◌+◌, length, string_bytes, map, drop}
use Rattle.xq_trees.specs.Items.{item_view}
use Rattle.xq_meaning.specs.Readings.{items_at}
use Rattle.xq_build.specs.Reads.{rows_below, own_rows}
use Rattle.xq_build.specs.private.Writing.{each_after_comma}
use Rattle.xq_build.proofs.Counted.{Within}
use Rattle.xq_build.proofs.printer.append_others.Given as goal

-- what was written and what is left are the whole, and so is what was read and may still be
abbrev pub invariant-loop-item : goal.invariant-loop-item
invariant-loop-item g l =
    let trees = g.L.TreeSource.forest l.fn.source in
    record {
      keeps : g.L.TreeSource.forest l.source ≡ g.L.TreeSource.forest l.fn.source;
      was_clean : g.L.TreeSource.is_clean l.source → g.L.TreeSource.is_clean l.fn.source;
      within : length (string_bytes l.text) ≤ l.limit;
      written : g.L.TreeSource.is_clean l.source
          → string_bytes l.text ++ each_after_comma trees (items_at trees (map item_view (drop l.item-index l.items)))
          ≡ string_bytes l.fn.text ++ each_after_comma trees (items_at trees (map item_view l.items));
      reads : g.L.TreeSource.is_clean l.source
          → Within trees l.items l.item-index (g.L.TreeSource.meter l.source)
          ((g.L.TreeSource.meter l.fn.source).rows + sum_by (rows_below trees) (items_at trees (map item_view l.items)))
          ((g.L.TreeSource.meter l.fn.source).singles + sum_by own_rows (items_at trees (map item_view l.items)));
    }
