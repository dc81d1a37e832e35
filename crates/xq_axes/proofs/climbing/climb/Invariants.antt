use Rattle.xq_sources.specs.Sources.{tree_at}
use Rattle.xq_axes.proofs.Ancestors.{IsClimbed}
use Rattle.xq_axes.proofs.climbing.climb.Given as goal

-- the parents so far lead from the node to the place
abbrev pub invariant-loop : goal.invariant-loop
invariant-loop g l = g.L.TreeSource.is_clean l.source → IsClimbed (tree_at (g.L.TreeSource.forest l.source) l.tree) l.node l.place l.above.items
