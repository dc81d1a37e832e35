use Rattle.std.proofs.Common.{◌≡◌, map, drop, false}
use Rattle.xq_trees.specs.Levels.{flat}
use Rattle.xq_build.specs.private.Content.{are_settled}
use Rattle.xq_build.proofs.content.are_settled.Given as goal

-- the rows that are left decide
abbrev pub invariant-loop-at : goal.invariant-loop-at
invariant-loop-at l = are_settled l.is_after_text (map flat (drop l.at l.rows.rows)) ≡ are_settled false (map flat l.rows.rows)
