use Rattle.std.proofs.Common.{◌≡◌, ℕ, ◌+◌, ◌-◌, ◌<◌, ◌≤◌, length, min, get_or}
use Rattle.xq_trees.specs.Forest.{count}
use Rattle.xq_trees.specs.Tree.{nodes}
use Rattle.xq_sources.specs.Sources.{tree_at}
use Rattle.xq_axes.specs.private.Hits.{IsRising}
use Rattle.xq_axes.proofs.GoingOn.{OnSoFar}
use Rattle.xq_axes.proofs.onward.search_on.Given as goal

-- the rows before the place were met
abbrev pub invariant-loop-low : goal.invariant-loop-low
invariant-loop-low g l =
    let trees = g.L.TreeSource.forest l.initial.source in
    let t = tree_at trees l.tree in
    record {
      forest : g.L.TreeSource.forest l.source ≡ trees;
      clean : g.L.TreeSource.is_clean l.source → g.L.TreeSource.is_clean l.initial.source;
      singles : (g.L.TreeSource.meter l.source).singles ≡ (g.L.TreeSource.meter l.initial.source).singles;
      looks : (g.L.TreeSource.meter l.source).looks ≡ (g.L.TreeSource.meter l.initial.source).looks;
      first : get_or l.places 0 0 ≤ l.low;
      rows :
          g.L.TreeSource.is_clean l.source
          → (g.L.TreeSource.meter l.source).rows ≤ (g.L.TreeSource.meter l.initial.source).rows + (min l.low (count (nodes t)) - get_or l.places 0 0);
      looked :
          g.L.TreeSource.is_clean l.source → ((i : ℕ) → i < length l.places → get_or l.places i 0 < count (nodes t)) → IsRising l.places
          → OnSoFar l.test t l.places l.low l.picker.judge.contexts.met l.picker.judge.levels l.picker.found.items
          × (l.picker.test.now ≡ l.test) × (l.picker.judge.contexts.places.now ≡ l.places);
    }

abbrev pub decreases-loop-low : goal.decreases-loop-low
decreases-loop-low g l = l.last + 1 - l.low
