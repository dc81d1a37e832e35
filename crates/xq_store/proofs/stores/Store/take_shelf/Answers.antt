use Rattle.std.proofs.Common.{Result, Ok, Err, IfOk, IsTrue, sym, subst}
use Rattle.xq_store.specs.declared.shelves.Cache.{Cache}
use Rattle.xq_store.specs.private.Keeps.{Keeps}
use Rattle.xq_tables.proofs.Calls.{leaves_open, on_ok_clean}
use Rattle.xq_store.proofs.Keeping.{taken, taken_anew, taken_own}
use Rattle.xq_store.proofs.stores.Store.take_shelf.Goals as goal

stays_own : {E X : Type 0} (r : Result Cache E) → X → IfOk r (λ shelf. IsTrue shelf.stays → X)
stays_own (Ok shelf) own = λ stays. own
stays_own (Err want) own = tt

pub returns-in_ok-check_open-in-Some-clause-shelf : goal.returns-in_ok-check_open-in-Some-clause-shelf
returns-in_ok-check_open-in-Some-clause-shelf g c =
    let kept = subst (Keeps g.S.Store c.self.inside.conn) (sym c.in-Some.ensures.value) c.self.invariant.keeps in
    taken g.S.Store c.self.inside.conn c.args.self.now c.check_open.new.conn c.self.view_is c.check_open.ensures.outside c.self.inside.shelf c.self.invariant c.in-Some.shelf kept c.in_ok-check_open-in-Some.ensures.ends_open

pub returns-in_ok-check_open-in-Some-clause-own : goal.returns-in_ok-check_open-in-Some-clause-own
returns-in_ok-check_open-in-Some-clause-own g c up stays =
    taken_own g.S.Store c.self.inside.conn c.args.self.now c.check_open.new.conn c.self.view_is c.check_open.ensures.outside c.self.inside.shelf c.self.invariant up

pub returns-in_ok-check_open-in-Some-clause-answered : goal.returns-in_ok-check_open-in-Some-clause-answered
returns-in_ok-check_open-in-Some-clause-answered g c = leaves_open g.S.Store c.check_open.new.conn c.in_ok-check_open-in-Some.ensures.ends_open

pub returns-in-None-clause-shelf : goal.returns-in-None-clause-shelf
returns-in-None-clause-shelf g c =
    taken_anew g.S.Store c.self.inside.conn c.args.self.now c.list_shelf.new.conn c.self.view_is c.list_shelf.result c.list_shelf.ensures.shelf c.list_shelf.ensures.ends_open

pub returns-in-None-clause-own : goal.returns-in-None-clause-own
returns-in-None-clause-own g c up =
    let own = taken_own g.S.Store c.self.inside.conn c.args.self.now c.list_shelf.new.conn c.self.view_is c.list_shelf.ensures.outside c.self.inside.shelf c.self.invariant up in
    stays_own c.list_shelf.result own

pub returns-in-None-clause-answered : goal.returns-in-None-clause-answered
returns-in-None-clause-answered g c clean = on_ok_clean g.S.Store c.list_shelf.new.conn c.list_shelf.result c.list_shelf.ensures.ends_open clean
