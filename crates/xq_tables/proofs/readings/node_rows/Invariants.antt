use Rattle.std.proofs.Common.{◌≡◌, map, take}
use Rattle.xq_trees.specs.Rows.{placed}
use Rattle.xq_tables.specs.Nodes.{cells}
use Rattle.xq_tables.specs.private.Columns.{node_of}
use Rattle.xq_tables.proofs.readings.node_rows.Given as goal

abbrev pub invariant-loop-row : goal.invariant-loop-row
invariant-loop-row l = map cells (map placed l.nodes.items) ≡ map node_of (take l.row-index l.rows)
