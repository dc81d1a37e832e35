use Rattle.std.proofs.Common.{◌≡◌, map}
use Rattle.xq_trees.specs.Rows.{placed}
use Rattle.xq_tables.specs.Nodes.{cells}
use Rattle.xq_tables.specs.private.Columns.{node_of}
use Rattle.xq_tables.proofs.Streams.{IsUnderWay}
use Rattle.xq_tables.proofs.rows.rest_as_nodes.Given as goal

abbrev pub invariant-loop : goal.invariant-loop
invariant-loop g l = (l.rows.conn.ghost_name ≡ l.fn.rows.conn.ghost_name) × IsUnderWay g.S.Store l.fn.rows.conn.now l.rows.conn.now (λ given. map cells (map placed l.nodes.items) ≡ map node_of given)
