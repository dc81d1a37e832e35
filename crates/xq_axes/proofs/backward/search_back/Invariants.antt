use Rattle.std.proofs.Common.{◌≡◌, ℕ, ◌+◌, ◌-◌, ◌<◌, ◌≤◌, length, min, get_or}
use Rattle.std.specs.Prelude.{slice_get}
use Rattle.xq_trees.specs.Forest.{count}
use Rattle.xq_trees.specs.Tree.{nodes}
use Rattle.xq_sources.specs.Sources.{tree_at}
use Rattle.xq_axes.specs.private.Hits.{IsRising}
use Rattle.xq_axes.specs.private.Waiting.{bound, IsLooked}
use Rattle.xq_axes.proofs.backward.search_back.Given as goal

-- the rows after the place were looked at
abbrev pub invariant-loop-high : goal.invariant-loop-high
invariant-loop-high g l =
    let trees = g.L.TreeSource.forest l.initial.source in
    let t = tree_at trees l.tree in
    record {
      forest : g.L.TreeSource.forest l.source ≡ trees;
      clean : g.L.TreeSource.is_clean l.source → g.L.TreeSource.is_clean l.initial.source;
      singles : (g.L.TreeSource.meter l.source).singles ≡ (g.L.TreeSource.meter l.initial.source).singles;
      looks : (g.L.TreeSource.meter l.source).looks ≡ (g.L.TreeSource.meter l.initial.source).looks;
      direction : l.look.direction ≡ l.fn.direction;
      places : l.look.contexts.places.now ≡ l.places;
      rows :
          g.L.TreeSource.is_clean l.source
          → (g.L.TreeSource.meter l.source).rows + min (bound l.high) (count (nodes t))
          ≤ (g.L.TreeSource.meter l.initial.source).rows + min (bound (slice_get l.places (length l.places - 1))) (count (nodes t));
      looked :
          g.L.TreeSource.is_clean l.source → ((i : ℕ) → i < length l.places → get_or l.places i 0 < count (nodes t)) → IsRising l.places
          → IsLooked l.fn.direction l.test t l.places (bound l.high) l.look.contexts.left l.look.levels l.look.found.items;
    }

abbrev pub decreases-loop-high : goal.decreases-loop-high
decreases-loop-high g l = bound l.high
