use Rattle.std.proofs.Common.{◌≡◌, ◌≤◌, ◌+◌, ℕ, length}
use Rattle.xq_trees.specs.Rising.{AreRising}
use Rattle.xq_axes.specs.Nodes.{HaveAll}
use Rattle.xq_axes.specs.Scans.{AreOf}
use Rattle.xq_axes.specs.Many.{IsGathered, AreKept}
use Rattle.xq_sources.specs.Meters.{SeesAtMost}
use Rattle.xq_axes.proofs.steps.step_from.Given as goal

-- the contexts so far were gathered, and where they are of one tree nothing was read yet
abbrev pub invariant-loop-context : goal.invariant-loop-context
invariant-loop-context g l =
    let trees = g.L.TreeSource.forest l.initial.source in
    record {
      forest : g.L.TreeSource.forest l.source ≡ trees;
      clean : g.L.TreeSource.is_clean l.source → g.L.TreeSource.is_clean l.initial.source;
      rows :
          g.L.TreeSource.is_clean l.source → (one : ℕ) → AreOf one l.contexts
          → (g.L.TreeSource.meter l.source).rows ≤ (g.L.TreeSource.meter l.initial.source).rows;
      sees :
          g.L.TreeSource.is_clean l.source → (one : ℕ) → AreOf one l.contexts
          → SeesAtMost (g.L.TreeSource.meter l.initial.source) (g.L.TreeSource.meter l.source) 0;
      rising : AreRising l.found.items;
      kept : (one : ℕ) → AreOf one l.contexts → AreKept l.contexts l.context-index l.gathered.tree l.gathered.places.items;
      singles : (g.L.TreeSource.meter l.source).singles + length l.gathered.places.items ≤ (g.L.TreeSource.meter l.initial.source).singles + l.context-index;
      gathered : g.L.TreeSource.is_clean l.source → AreRising l.contexts → HaveAll trees l.contexts
          → IsGathered trees l.axis l.test l.contexts l.context-index l.gathered.tree l.gathered.places.items l.found.items;
    }
