use Rattle.std.proofs.Common.{◌≡◌, ◌++◌, List, map, take}
use Rattle.xq_trees.specs.Levels.{flat}
use Rattle.xq_build.specs.private.Leaves.{Leaf}
use Rattle.xq_build.specs.private.Content.{merged_leaves, AreApart}
use Rattle.xq_build.proofs.content.merged.Given as goal

-- the rows so far, merged, may stand for those that they came from
abbrev pub invariant-loop-at : goal.invariant-loop-at
invariant-loop-at l = record {
  merges : (others : List Leaf) → merged_leaves (map flat l.all.rows ++ others) ≡ merged_leaves (map flat (take l.at l.rows.rows) ++ others);
  apart : AreApart (map flat l.all.rows);
}
