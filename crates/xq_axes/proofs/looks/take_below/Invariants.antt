use Rattle.std.proofs.Common.{◌≡◌, ℕ, ◌+◌, ◌<◌, ◌≤◌, get_or}
use Rattle.xq_atoms.specs.Text.{Text}
use Rattle.xq_trees.specs.Rows.{placed_rows}
use Rattle.xq_sources.specs.Names.{named}
use Rattle.xq_sources.specs.Sources.{tree_at}
use Rattle.xq_axes.specs.private.Hits.{IsRising}
use Rattle.xq_axes.proofs.LookedBelow.{IsFound}
use Rattle.xq_axes.proofs.looks.take_below.Given as goal

-- what is below the contexts so far was found
abbrev pub invariant-loop-place : goal.invariant-loop-place
invariant-loop-place g l =
    let t = tree_at (g.L.TreeSource.forest l.initial.source) l.tree in
    record {
      forest : g.L.TreeSource.forest l.source ≡ g.L.TreeSource.forest l.initial.source;
      clean : g.L.TreeSource.is_clean l.source → g.L.TreeSource.is_clean l.initial.source;
      rows : (g.L.TreeSource.meter l.source).rows ≡ (g.L.TreeSource.meter l.initial.source).rows;
      singles : (g.L.TreeSource.meter l.source).singles ≤ (g.L.TreeSource.meter l.initial.source).singles + l.place-index;
      looks : (g.L.TreeSource.meter l.source).looks ≡ (g.L.TreeSource.meter l.initial.source).looks;
      so_far :
          g.L.TreeSource.is_clean l.source → IsRising l.places → (name : Text) → l.named ≡ named (placed_rows t) name
          → record {
            before : (i : ℕ) → i < l.place-index → get_or l.places i 0 < l.next;
            found : IsFound name t l.places l.next l.found.items;
          };
    }
