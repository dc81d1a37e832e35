use Rattle.std.proofs.Common.{◌≡◌, map, take}
use Rattle.std.specs.Prelude.{filter}
use Rattle.xq_trees.specs.Rows.{placed}
use Rattle.xq_sources.specs.Sources.{encloses}
use Rattle.xq_sources.proofs.rows.copy_enclosing.Given as goal

-- of the rows so far those above the node were copied
abbrev pub invariant-loop-at : goal.invariant-loop-at
invariant-loop-at l = map placed l.copies.items ≡ filter (encloses l.node) (take l.at l.rows)
