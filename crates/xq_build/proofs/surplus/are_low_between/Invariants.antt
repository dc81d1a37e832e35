use Rattle.std.proofs.Common.{◌≡◌, ◌-◌, suc}
use Rattle.xq_sources.specs.Sources.{tree_at}
use Rattle.xq_build.specs.private.Leaves.{leaves_between}
use Rattle.xq_build.specs.private.Content.{are_low}
use Rattle.xq_build.proofs.surplus.are_low_between.Given as goal

-- the rows that are left decide
abbrev pub invariant-loop-next : goal.invariant-loop-next
invariant-loop-next g l =
    let t = tree_at (g.L.TreeSource.forest l.fn.source) l.tree in
    record {
      keeps : g.L.TreeSource.forest l.source ≡ g.L.TreeSource.forest l.fn.source;
      was_clean : g.L.TreeSource.is_clean l.source → g.L.TreeSource.is_clean l.fn.source;
      left : g.L.TreeSource.is_clean l.source → are_low (leaves_between t l.low l.high) ≡ are_low (leaves_between t l.next l.high);
    }

abbrev pub decreases-loop-next : goal.decreases-loop-next
decreases-loop-next g l = suc l.high - l.next
