use Rattle.std.proofs.Common.{◌≡◌, ◌≤◌, ◌+◌, length}
use Rattle.xq_trees.specs.Forest.{count}
use Rattle.xq_trees.specs.Tree.{nodes}
use Rattle.xq_trees.specs.declared.Axis.TheVariants as axis
use Rattle.xq_sources.specs.Sources.{tree_at}
use Rattle.xq_axes.specs.private.Hits.{below_where, IsRising}
use Rattle.xq_axes.proofs.CountedAttributes.{IsSoFar}
use Rattle.xq_axes.proofs.Scans.{in_some}
use Rattle.xq_axes.proofs.attributes.search_attributes.Given as goal

-- the attributes of the nodes so far were found, and each of their rows was read once
abbrev pub invariant-loop-node : goal.invariant-loop-node
invariant-loop-node g l =
    let t = tree_at (g.L.TreeSource.forest l.initial.source) l.tree in
    record {
      forest : g.L.TreeSource.forest l.source ≡ g.L.TreeSource.forest l.initial.source;
      clean : g.L.TreeSource.is_clean l.source → g.L.TreeSource.is_clean l.initial.source;
      singles : (g.L.TreeSource.meter l.source).singles ≡ (g.L.TreeSource.meter l.initial.source).singles;
      looks : (g.L.TreeSource.meter l.source).looks ≡ (g.L.TreeSource.meter l.initial.source).looks;
      within : g.L.TreeSource.is_clean l.source → l.next ≤ count (nodes t);
      rows : g.L.TreeSource.is_clean l.source → (g.L.TreeSource.meter l.source).rows ≤ (g.L.TreeSource.meter l.initial.source).rows + length (below_where (in_some axis.Attributes t l.places) l.next);
      so_far :
          g.L.TreeSource.is_clean l.source → IsRising l.places
          → record {
            places : l.picker.judge.places.now ≡ l.places;
            test : l.picker.test.now ≡ l.fn.test;
            found : IsSoFar l.fn.test t l.places l.node-index l.next l.picker.found.items;
          };
    }
