use Rattle.std.proofs.Common.{◌≡◌, ◌≤◌, ◌++◌, ◌+◌, ◌-◌, suc, length, string_bytes, map}
use Rattle.xq_trees.specs.Printing.{text_from}
use Rattle.xq_sources.specs.Sources.{tree_at}
use Rattle.xq_build.specs.private.Leaves.{lowered, leaves_between}
use Rattle.xq_build.proofs.printer.append_nodes.Given as goal

-- what was written and what is left are the whole, and no row was counted twice
abbrev pub invariant-loop-next : goal.invariant-loop-next
invariant-loop-next g l =
    let t = tree_at (g.L.TreeSource.forest l.fn.source) l.tree in
    record {
      keeps : g.L.TreeSource.forest l.source ≡ g.L.TreeSource.forest l.fn.source;
      was_clean : g.L.TreeSource.is_clean l.source → g.L.TreeSource.is_clean l.fn.source;
      within : length (string_bytes l.text) ≤ l.limit;
      written : g.L.TreeSource.is_clean l.source
          → string_bytes l.text ++ text_from l.depth (map (lowered l.base) (leaves_between t l.next l.high))
          ≡ string_bytes l.fn.text ++ text_from l.fn.depth (map (lowered l.base) (leaves_between t l.low l.high));
      rows : g.L.TreeSource.is_clean l.source
          → (g.L.TreeSource.meter l.source).rows + (l.high + 1 - l.next) ≤ (g.L.TreeSource.meter l.fn.source).rows + (l.high + 1 - l.low);
      singles : (g.L.TreeSource.meter l.source).singles ≡ (g.L.TreeSource.meter l.fn.source).singles;
    }

abbrev pub decreases-loop-next : goal.decreases-loop-next
decreases-loop-next g l = suc l.high - l.next
