use Rattle.std.proofs.Common.{◌≡◌, ℕ, ◌++◌, map, take}
use Rattle.xq_trees.specs.Rising.{AreRising}
use Rattle.xq_axes.proofs.steps.add_nodes.Given as goal

-- the nodes at the places so far were added, each after those before it
abbrev pub invariant-loop-place : goal.invariant-loop-place
invariant-loop-place l = record {
  nodes : l.found.items ≡ l.initial.found.items ++ map (λ (p : ℕ). record { tree = l.tree; pre = p }) (take l.place-index l.places);
  rising : AreRising l.initial.found.items → AreRising l.found.items;
}
