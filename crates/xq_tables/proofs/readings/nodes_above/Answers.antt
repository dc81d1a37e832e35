use Rattle.std.proofs.Common.{sym, subst}
use Rattle.sqlite.specs.Held.{state}
use Rattle.xq_tables.specs.Reads.{AreAbove}
use Rattle.xq_tables.proofs.Loads.{above_read_is}
use Rattle.xq_tables.proofs.readings.nodes_above.Goals as goal

pub returns-clause-nodes : goal.returns-clause-nodes
returns-clause-nodes g c up =
    let db = (state g.S.Store c.args.conn.now).now in
    let shown = subst (AreAbove c.args.address.now c.args.node db) (sym c.deref.ensures.value) (c.in_ok-rows.ensures.rows up) in
    above_read_is db c.args.address.now c.args.node c.deref.result.now c.in_ok-node_rows.field-0.items shown c.in_ok-node_rows.ensures
