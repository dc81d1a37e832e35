use Rattle.std.proofs.Common.{◌≡◌, ◌≤◌, length, take, vec_capacity}
use Rattle.std.specs.Prelude.{filter}
use Rattle.xq_sources.specs.Sources.{tree_at}
use Rattle.xq_axes.specs.private.Hits.{IsRising}
use Rattle.xq_axes.specs.private.Named.{is_below_one}
use Rattle.xq_axes.proofs.children.told_below.Given as goal

-- of the places so far those below a context were kept, and there is room for all
abbrev pub invariant-loop-place : goal.invariant-loop-place
invariant-loop-place g l = record {
  kept : g.L.TreeSource.is_clean l.source → IsRising l.contexts → l.found.items ≡ filter (is_below_one (tree_at (g.L.TreeSource.forest l.source) l.tree) l.contexts) (take l.place-index l.places);
  room : vec_capacity l.found ≡ length l.places;
  fewer : length l.found.items ≤ l.place-index;
}
