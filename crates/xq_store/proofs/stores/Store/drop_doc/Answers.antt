use Rattle.std.proofs.Common.{subst, sym}
use Rattle.xq_tables.specs.Documents.{StandsFor}
use Rattle.xq_store.specs.private.Keeps.{IsKeeping}
use Rattle.xq_store.proofs.Keeping.{has_dropped}
use Rattle.xq_tables.proofs.Calls.{on_err, was_clean, was_open, kept_stands, drop_stands, drop_answer, leaves_open}
use Rattle.xq_store.proofs.stores.Store.drop_doc.Goals as goal

pub returns-in_err-count-clause-kept : goal.returns-in_err-count-clause-kept
returns-in_err-count-clause-kept g c clean m stands =
    on_err (StandsFor g.S.Store c.drop_rows.new.conn m) _ (kept_stands g.S.Store c.self.inside.conn c.args.self.now c.drop_rows.new.conn c.self.view_is c.drop_rows.ensures.outside.was_open c.in_err-count.ensures.kept clean m stands)

pub returns-clause-dropped : goal.returns-clause-dropped
returns-clause-dropped g c = drop_stands g.S.Store c.self.inside.conn c.args.self.now c.drop_rows.new.conn c.self.view_is c.drop_rows.ensures.outside.was_open c.in_ok-count.ensures.ends_open c.args.address.now c.in_ok-count.count c.in_ok-count.ensures.dropped

pub returns-clause-answer : goal.returns-clause-answer
returns-clause-answer g c = drop_answer g.S.Store c.self.inside.conn c.args.self.now c.drop_rows.new.conn c.self.view_is c.drop_rows.ensures.outside.was_open c.in_ok-count.ensures.ends_open c.args.address.now c.in_ok-count.count c.in_ok-count.ensures.dropped

pub returns-clause-answered : goal.returns-clause-answered
returns-clause-answered g c = leaves_open g.S.Store c.drop_rows.new.conn c.in_ok-count.ensures.ends_open

pub returns-in_err-count-clause-was_open : goal.returns-in_err-count-clause-was_open
returns-in_err-count-clause-was_open g c = was_open g.S.Store c.self.inside.conn c.args.self.now c.drop_rows.new.conn c.self.view_is c.drop_rows.ensures.outside.was_open

pub returns-in_err-count-clause-was_clean : goal.returns-in_err-count-clause-was_clean
returns-in_err-count-clause-was_clean g c = was_clean g.S.Store c.self.inside.conn c.args.self.now c.drop_rows.new.conn c.self.view_is c.drop_rows.ensures.outside.clean

pub returns-clause-was_open : goal.returns-clause-was_open
returns-clause-was_open g c = was_open g.S.Store c.self.inside.conn c.args.self.now c.drop_rows.new.conn c.self.view_is c.drop_rows.ensures.outside.was_open

pub returns-clause-was_clean : goal.returns-clause-was_clean
returns-clause-was_clean g c = was_clean g.S.Store c.self.inside.conn c.args.self.now c.drop_rows.new.conn c.self.view_is c.drop_rows.ensures.outside.clean

pub invariant_of-self-2 : goal.invariant_of-self-2
invariant_of-self-2 g c =
    has_dropped g.S.Store c.self.inside.conn c.drop_rows.new.conn c.drop_rows.ensures.outside c.take-shelf.result (subst (IsKeeping g.S.Store c.self.inside.conn) (sym c.take-shelf.ensures.value) c.self.invariant)
    c.args.address.now c.in_ok-count.count c.in_ok-count.ensures.dropped c.shelf_without.result c.shelf_without.ensures
