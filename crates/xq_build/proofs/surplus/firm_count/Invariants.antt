use Rattle.std.proofs.Common.{◌≡◌, ◌≤◌, map, take}
use Rattle.xq_trees.specs.Levels.{flat}
use Rattle.xq_build.specs.private.Surplus.{firm_count}
use Rattle.xq_build.proofs.surplus.firm_count.Given as goal

-- of the rows so far so many are firm
abbrev pub invariant-loop-at : goal.invariant-loop-at
invariant-loop-at l = (l.count ≡ firm_count (map flat (take l.at l.rows.rows))) × (l.count ≤ l.at)
