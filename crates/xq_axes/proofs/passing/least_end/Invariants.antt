use Rattle.std.proofs.Common.{◌≡◌, ◌≤◌, ◌+◌}
use Rattle.xq_sources.specs.Sources.{tree_at}
use Rattle.xq_axes.proofs.Ranges.{IsLeastSoFar}
use Rattle.xq_axes.proofs.passing.least_end.Given as goal

-- the least end of the places so far
abbrev pub invariant-loop-place : goal.invariant-loop-place
invariant-loop-place g l = record {
  forest : g.L.TreeSource.forest l.source ≡ g.L.TreeSource.forest l.initial.source;
  clean : g.L.TreeSource.is_clean l.source → g.L.TreeSource.is_clean l.initial.source;
  rows : (g.L.TreeSource.meter l.source).rows ≡ (g.L.TreeSource.meter l.initial.source).rows;
  singles : (g.L.TreeSource.meter l.source).singles ≤ (g.L.TreeSource.meter l.initial.source).singles + l.place-index;
  looks : (g.L.TreeSource.meter l.source).looks ≡ (g.L.TreeSource.meter l.initial.source).looks;
  so_far : g.L.TreeSource.is_clean l.source → IsLeastSoFar (tree_at (g.L.TreeSource.forest l.initial.source) l.tree) l.places l.place-index l.least;
}
