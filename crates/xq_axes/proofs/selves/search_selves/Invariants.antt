use Rattle.std.proofs.Common.{◌≡◌, ◌≤◌, ◌+◌}
use Rattle.xq_sources.specs.Sources.{tree_at}
use Rattle.xq_axes.specs.private.Hits.{IsRising}
use Rattle.xq_axes.proofs.OwnNodes.{IsSoFar}
use Rattle.xq_axes.proofs.selves.search_selves.Given as goal

-- of the places so far those that pass were found
abbrev pub invariant-loop-place : goal.invariant-loop-place
invariant-loop-place g l = record {
  forest : g.L.TreeSource.forest l.source ≡ g.L.TreeSource.forest l.initial.source;
  clean : g.L.TreeSource.is_clean l.source → g.L.TreeSource.is_clean l.initial.source;
  rows : (g.L.TreeSource.meter l.source).rows ≡ (g.L.TreeSource.meter l.initial.source).rows;
  singles : (g.L.TreeSource.meter l.source).singles ≤ (g.L.TreeSource.meter l.initial.source).singles + l.place-index;
  looks : (g.L.TreeSource.meter l.source).looks ≡ (g.L.TreeSource.meter l.initial.source).looks;
  so_far : g.L.TreeSource.is_clean l.source → IsRising l.places → IsSoFar l.test (tree_at (g.L.TreeSource.forest l.initial.source) l.tree) l.places l.place-index l.found.items;
}
