use Rattle.std.proofs.Common.{◌≡◌, length}
use Rattle.xq_sources.specs.Sources.{tree_at}
use Rattle.xq_axes.specs.private.Counted.{AreCounted}
use Rattle.xq_axes.proofs.attributes.told_attributes.Given as goal

-- the attributes of the nodes so far were counted
abbrev pub invariant-loop-place : goal.invariant-loop-place
invariant-loop-place g l = record {
  told : g.L.TreeSource.is_clean l.source → AreCounted (tree_at (g.L.TreeSource.forest l.source) l.tree) l.places l.counted.items;
  all : length l.counted.items ≡ l.place-index;
}
