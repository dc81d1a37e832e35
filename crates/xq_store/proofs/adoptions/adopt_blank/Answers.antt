use Rattle.std.proofs.Common.{◌≡◌, []}
use Rattle.sqlite.specs.Held.{state}
use Rattle.xq_tables.specs.Documents.{IsReady}
use Rattle.xq_store.specs.declared.shelves.Cache.{Cache}
use Rattle.xq_store.specs.private.Keeps.{AreOf}
use Rattle.xq_tables.proofs.AdoptReads.{each_some}
use Rattle.xq_store.proofs.Keeping.{empty_of}
use Rattle.xq_store.proofs.adoptions.adopt_blank.Goals as goal

pub returns-clause-shelf : goal.returns-clause-shelf
returns-clause-shelf g c =
    let new = state g.S.Store c.make_tables.new.conn in
    each_some (λ (s : Cache). (s.addresses.value ≡ []) × (s.fronts.items ≡ [])) (λ (s : Cache). IsReady new → AreOf new.now s.addresses.value s.fronts.items) c.empty.result
    (λ s are ready. empty_of new.now s (c.in_ok-make_tables.ensures.made ready c.requires.tables) are) c.empty.ensures
