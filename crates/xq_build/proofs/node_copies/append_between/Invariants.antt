use Rattle.std.proofs.Common.{◌≡◌, ◌++◌, ◌-◌, suc, map}
use Rattle.xq_trees.specs.Levels.{flat}
use Rattle.xq_sources.specs.Sources.{tree_at}
use Rattle.xq_build.specs.private.Leaves.{lowered, leaves_between}
use Rattle.xq_build.proofs.node_copies.append_between.Given as goal

-- what was copied and what is left are the whole
abbrev pub invariant-loop-next : goal.invariant-loop-next
invariant-loop-next g l =
    let t = tree_at (g.L.TreeSource.forest l.fn.source) l.tree in
    record {
      keeps : g.L.TreeSource.forest l.source ≡ g.L.TreeSource.forest l.fn.source;
      was_clean : g.L.TreeSource.is_clean l.source → g.L.TreeSource.is_clean l.fn.source;
      copied : g.L.TreeSource.is_clean l.source
          → map flat l.copies.rows ++ map (lowered l.base) (leaves_between t l.next l.high)
          ≡ map flat l.fn.copies.rows ++ map (lowered l.base) (leaves_between t l.low l.high);
    }

abbrev pub decreases-loop-next : goal.decreases-loop-next
decreases-loop-next g l = suc l.high - l.next
