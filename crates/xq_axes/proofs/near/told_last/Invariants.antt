use Rattle.std.proofs.Common.{◌≡◌, ◌∷◌, [], drop}
use Rattle.std.specs.Prelude.{filter}
use Rattle.xq_sources.specs.Sources.{tree_at}
use Rattle.xq_axes.specs.private.Named.{is_below_one}
use Rattle.xq_axes.proofs.near.told_last.Given as goal

-- at none of the places from the index on such a node lies
abbrev pub invariant-loop-index : goal.invariant-loop-index
invariant-loop-index g l =
    g.L.TreeSource.is_clean l.source → filter (is_below_one (tree_at (g.L.TreeSource.forest l.source) l.tree) (l.place ∷ [])) (drop l.index l.places) ≡ []
