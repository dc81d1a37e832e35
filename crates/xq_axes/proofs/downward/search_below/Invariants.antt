use Rattle.std.proofs.Common.{◌≡◌, ℕ, ◌+◌, ◌<◌, ◌≤◌, length, get_or}
use Rattle.xq_trees.specs.Forest.{count}
use Rattle.xq_trees.specs.Tree.{nodes}
use Rattle.xq_sources.specs.Sources.{tree_at}
use Rattle.xq_axes.specs.private.Hits.{below_where, IsRising}
use Rattle.xq_axes.specs.private.Downward.{axis_of, IsSearched}
use Rattle.xq_axes.proofs.Scans.{in_some}
use Rattle.xq_axes.proofs.downward.search_below.Given as goal

-- what is in the rows before the next was found, each row was read once at most, and the places so
-- far are before the next
abbrev pub invariant-loop-place : goal.invariant-loop-place
invariant-loop-place g l =
    let t = tree_at (g.L.TreeSource.forest l.initial.source) l.tree in
    let p = l.picker in
    record {
      forest : g.L.TreeSource.forest l.source ≡ g.L.TreeSource.forest l.initial.source;
      clean : g.L.TreeSource.is_clean l.source → g.L.TreeSource.is_clean l.initial.source;
      rows : g.L.TreeSource.is_clean l.source → (g.L.TreeSource.meter l.source).rows ≤ (g.L.TreeSource.meter l.initial.source).rows + length (below_where (in_some (axis_of (g.D.Direction.which l.fn.direction)) t l.places) l.next);
      within : g.L.TreeSource.is_clean l.source → l.next ≤ count (nodes t);
      singles : (g.L.TreeSource.meter l.source).singles ≤ (g.L.TreeSource.meter l.initial.source).singles + l.place-index;
      looks : (g.L.TreeSource.meter l.source).looks ≡ (g.L.TreeSource.meter l.initial.source).looks;
      searched :
          g.L.TreeSource.is_clean l.source → IsRising l.places
          → record {
            direction : p.judge.direction ≡ l.fn.direction;
            places : p.judge.contexts.places.now ≡ l.places;
            test : p.test.now ≡ l.fn.test;
            before : (i : ℕ) → i < l.place-index → get_or l.places i 0 < l.next;
            found : IsSearched (g.D.Direction.which l.fn.direction) l.fn.test t l.places l.next p.judge.contexts.met (length p.judge.marks) p.found.items;
          };
    }
