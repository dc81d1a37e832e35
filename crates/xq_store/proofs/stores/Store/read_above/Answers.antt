use Rattle.std.proofs.Common.{Vec, Global}
use Rattle.xq_trees.specs.declared.NodeRow.{NodeRow}
use Rattle.xq_tables.proofs.Calls.{was_clean, was_open, read_stands, raised}
use Rattle.xq_store.proofs.stores.Store.read_above.Goals as goal

pub returns-clause-found : goal.returns-clause-found
returns-clause-found g c =
    raised g.S.Store c.self.inside.conn c.args.self.now c.nodes_above.new.conn c.self.view_is c.nodes_above.ensures.outside.was_open (λ (v : Vec NodeRow Global). v.items) c.nodes_above.result c.args.address.now c.nodes_above.ensures.ends_open c.args.node c.nodes_above.ensures.nodes

pub returns-clause-same : goal.returns-clause-same
returns-clause-same g c = read_stands g.S.Store c.self.inside.conn c.args.self.now c.nodes_above.new.conn c.self.view_is c.nodes_above.ensures.outside.was_open c.nodes_above.ensures.same

pub returns-clause-was_open : goal.returns-clause-was_open
returns-clause-was_open g c = was_open g.S.Store c.self.inside.conn c.args.self.now c.nodes_above.new.conn c.self.view_is c.nodes_above.ensures.outside.was_open

pub returns-clause-was_clean : goal.returns-clause-was_clean
returns-clause-was_clean g c = was_clean g.S.Store c.self.inside.conn c.args.self.now c.nodes_above.new.conn c.self.view_is c.nodes_above.ensures.outside.clean
