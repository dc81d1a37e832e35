use Rattle.std.proofs.Common.{◌≡◌, ◌+◌, ◌-◌, ◌≤◌, min}
use Rattle.xq_sources.specs.Sources.{tree_at}
use Rattle.xq_axes.specs.Reads.{span, span_end}
use Rattle.xq_axes.proofs.walks.walk.Given as goal

-- the rows before the next were read, each once
abbrev pub invariant-loop-next : goal.invariant-loop-next
invariant-loop-next g l =
    let t = tree_at (g.L.TreeSource.forest l.initial.source) l.tree in
    let s = span l.low l.high in
    record {
      forest : g.L.TreeSource.forest l.source ≡ g.L.TreeSource.forest l.initial.source;
      clean : g.L.TreeSource.is_clean l.source → g.L.TreeSource.is_clean l.initial.source;
      from : l.low ≤ l.next;
      read :
          g.L.TreeSource.is_clean l.source → (start : g.row.V.Denot) → g.V.Visitor.has_read start l.initial.visitor t s l.low
          → (l.next ≤ span_end t s) × g.V.Visitor.has_read start l.visitor t s l.next;
      rows : g.L.TreeSource.is_clean l.source → (g.L.TreeSource.meter l.source).rows ≤ (g.L.TreeSource.meter l.initial.source).rows + (min l.next (span_end t s) - l.low);
      singles : (g.L.TreeSource.meter l.source).singles ≡ (g.L.TreeSource.meter l.initial.source).singles;
      looks : (g.L.TreeSource.meter l.source).looks ≡ (g.L.TreeSource.meter l.initial.source).looks;
    }

abbrev pub decreases-loop-next : goal.decreases-loop-next
decreases-loop-next g l = l.high + 1 - l.next
