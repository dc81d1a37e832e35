use Rattle.std.proofs.Common.{◌≡◌, map, take}
use Rattle.xq_trees.specs.Rows.{placed}
use Rattle.xq_sources.proofs.rows.copy_rows.Given as goal

-- the rows so far were copied
abbrev pub invariant-loop-at : goal.invariant-loop-at
invariant-loop-at l = map placed l.copies.items ≡ take l.at l.rows
