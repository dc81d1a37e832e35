use Rattle.std.proofs.Common.{◌≡◌, map, drop}
use Rattle.std.specs.List.{list_any}
use Rattle.xq_trees.specs.Levels.{flat}
use Rattle.xq_build.specs.private.Surplus.{is_late}
use Rattle.xq_build.proofs.surplus.are_late.Given as goal

-- the rows that are left decide
abbrev pub invariant-loop-at : goal.invariant-loop-at
invariant-loop-at l = list_any is_late (map flat l.rows.rows) ≡ list_any is_late (map flat (drop l.at l.rows.rows))
