use Rattle.std.proofs.Common.{refl}
use Rattle.xq_store.proofs.Keeping.{given_back}
use Rattle.xq_store.proofs.views.View.into_store.Goals as goal

pub keep-requires : goal.keep-requires
keep-requires g c = given_back g.S.Store g.O.Origin.beginning _ c.self.inside.shelf refl c.self.invariant c.if-shelf.true
