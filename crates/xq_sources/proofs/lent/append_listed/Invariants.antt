use Rattle.std.proofs.Common.{◌≡◌, ◌++◌, map, take}
use Rattle.xq_trees.specs.Rows.{row_of}
use Rattle.xq_packed.specs.Changes.{moved}
use Rattle.xq_sources.proofs.lent.append_listed.Given as goal

-- the rows so far were added
abbrev pub invariant-loop-row : goal.invariant-loop-row
invariant-loop-row l =
    l.rows.rows ≡ l.fn.rows.rows ++ map (moved l.from l.to) (map row_of (take l.row-index l.listed))
