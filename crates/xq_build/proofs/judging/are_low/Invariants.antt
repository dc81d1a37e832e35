use Rattle.std.proofs.Common.{◌≡◌, map, drop}
use Rattle.xq_trees.specs.Levels.{flat}
use Rattle.xq_build.specs.private.Content.{are_low}
use Rattle.xq_build.proofs.judging.are_low.Given as goal

-- the rows that are left decide
abbrev pub invariant-loop-at : goal.invariant-loop-at
invariant-loop-at l = are_low (map flat l.rows.rows) ≡ are_low (map flat (drop l.at l.rows.rows))
