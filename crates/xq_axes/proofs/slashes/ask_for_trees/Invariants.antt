use Rattle.std.proofs.Common.{◌≡◌, ℕ, ◌+◌, ◌<◌, ◌≤◌, Some, get_or}
use Rattle.xq_trees.specs.Tree.{IsTree}
use Rattle.xq_trees.specs.declared.items.Node.{Node}
use Rattle.xq_sources.specs.Sources.{tree_at}
use Rattle.xq_axes.proofs.slashes.ask_for_trees.Given as goal

-- the trees of the nodes so far are trees, and so is the one that was asked for last
abbrev pub invariant-loop-node : goal.invariant-loop-node
invariant-loop-node g l =
    let trees = g.L.TreeSource.forest l.initial.source in
    record {
      forest : g.L.TreeSource.forest l.source ≡ trees;
      clean : g.L.TreeSource.is_clean l.source → g.L.TreeSource.is_clean l.initial.source;
      rows : (g.L.TreeSource.meter l.source).rows ≡ (g.L.TreeSource.meter l.initial.source).rows;
      singles : (g.L.TreeSource.meter l.source).singles ≤ (g.L.TreeSource.meter l.initial.source).singles + l.node-index;
      looks : (g.L.TreeSource.meter l.source).looks ≡ (g.L.TreeSource.meter l.initial.source).looks;
      so_far : g.L.TreeSource.is_clean l.source → (i : ℕ) (d : Node) → i < l.node-index → IsTree (tree_at trees (get_or l.nodes i d).tree);
      asked : g.L.TreeSource.is_clean l.source → (n : ℕ) → l.asked ≡ Some n → IsTree (tree_at trees n);
    }
