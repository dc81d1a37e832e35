use Rattle.std.proofs.Common.{Ok}
use Rattle.xq_tables.proofs.Calls.{was_clean, was_open, read_stands, loaded, leaves_open}
use Rattle.xq_store.proofs.stores.Store.load.Goals as goal

pub returns-clause-found : goal.returns-clause-found
returns-clause-found g c =
    loaded g.S.Store c.self.inside.conn c.args.self.now c.nodes_between.new.conn c.self.view_is c.nodes_between.ensures.outside.was_open {E = Unit {0}} c.args.address.now c.in_ok-nodes.nodes.items (Ok c.in_ok-found.found) c.in_ok-nodes.ensures.nodes c.in_ok-found.ensures.found c.in_ok-nodes.ensures.ends_open

pub returns-clause-answered : goal.returns-clause-answered
returns-clause-answered g c = leaves_open g.S.Store c.nodes_between.new.conn c.in_ok-nodes.ensures.ends_open

pub returns-in_err-nodes-clause-same : goal.returns-in_err-nodes-clause-same
returns-in_err-nodes-clause-same g c = read_stands g.S.Store c.self.inside.conn c.args.self.now c.nodes_between.new.conn c.self.view_is c.nodes_between.ensures.outside.was_open c.nodes_between.ensures.same

pub returns-in_err-found-clause-same : goal.returns-in_err-found-clause-same
returns-in_err-found-clause-same g c = read_stands g.S.Store c.self.inside.conn c.args.self.now c.nodes_between.new.conn c.self.view_is c.nodes_between.ensures.outside.was_open c.nodes_between.ensures.same

pub returns-in_err-nodes-clause-was_open : goal.returns-in_err-nodes-clause-was_open
returns-in_err-nodes-clause-was_open g c = was_open g.S.Store c.self.inside.conn c.args.self.now c.nodes_between.new.conn c.self.view_is c.nodes_between.ensures.outside.was_open

pub returns-in_err-found-clause-was_open : goal.returns-in_err-found-clause-was_open
returns-in_err-found-clause-was_open g c = was_open g.S.Store c.self.inside.conn c.args.self.now c.nodes_between.new.conn c.self.view_is c.nodes_between.ensures.outside.was_open

pub returns-in_err-nodes-clause-was_clean : goal.returns-in_err-nodes-clause-was_clean
returns-in_err-nodes-clause-was_clean g c = was_clean g.S.Store c.self.inside.conn c.args.self.now c.nodes_between.new.conn c.self.view_is c.nodes_between.ensures.outside.clean

pub returns-in_err-found-clause-was_clean : goal.returns-in_err-found-clause-was_clean
returns-in_err-found-clause-was_clean g c = was_clean g.S.Store c.self.inside.conn c.args.self.now c.nodes_between.new.conn c.self.view_is c.nodes_between.ensures.outside.clean

pub returns-clause-same : goal.returns-clause-same
returns-clause-same g c = read_stands g.S.Store c.self.inside.conn c.args.self.now c.nodes_between.new.conn c.self.view_is c.nodes_between.ensures.outside.was_open c.nodes_between.ensures.same

pub returns-clause-was_open : goal.returns-clause-was_open
returns-clause-was_open g c = was_open g.S.Store c.self.inside.conn c.args.self.now c.nodes_between.new.conn c.self.view_is c.nodes_between.ensures.outside.was_open

pub returns-clause-was_clean : goal.returns-clause-was_clean
returns-clause-was_clean g c = was_clean g.S.Store c.self.inside.conn c.args.self.now c.nodes_between.new.conn c.self.view_is c.nodes_between.ensures.outside.clean
