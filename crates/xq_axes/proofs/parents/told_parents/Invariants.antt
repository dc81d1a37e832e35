use Rattle.std.proofs.Common.{◌≡◌, length}
use Rattle.xq_sources.specs.Sources.{tree_at}
use Rattle.xq_axes.specs.private.KnownParents.{AreTold}
use Rattle.xq_axes.proofs.parents.told_parents.Given as goal

-- the parents of the places so far were told
abbrev pub invariant-loop-place : goal.invariant-loop-place
invariant-loop-place g l = record {
  told : g.L.TreeSource.is_clean l.source → AreTold (tree_at (g.L.TreeSource.forest l.source) l.tree) l.places l.parents.items;
  all : length l.parents.items ≡ l.place-index;
}
