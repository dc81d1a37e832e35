use Rattle.std.proofs.Common.{map, take}
use Rattle.std.specs.Prelude.{All, ◌<◌}
use Rattle.xq_trees.specs.Tree.{most_levels}
use Rattle.xq_trees.specs.Rows.{row_of}
use Rattle.xq_packed.specs.Packed.{IsExtended}
use Rattle.xq_packed.proofs.PackedRows.extend.Given as goal

-- the rows so far were added
abbrev pub invariant-loop-row : goal.invariant-loop-row
invariant-loop-row l = record {
  added : IsExtended l.fn.self l.self (map row_of (take l.row-index l.rows));
  fit : All (λ row. row.level < most_levels) (take l.row-index l.rows);
}
