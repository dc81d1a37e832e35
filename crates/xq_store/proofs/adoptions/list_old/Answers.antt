use Rattle.std.proofs.Common.{◌≡◌, ◌∙◌, Result, Ok, Err, IfOk, List, ℕ, length, ap}
use Rattle.std.proofs.lemmas.Result.{IfOk-weaker}
use Rattle.std.specs.FinMap.{keys}
use Rattle.sqlite.specs.Held.{state}
use Rattle.xq_trees.specs.Tree.{Tree}
use Rattle.xq_tables.specs.Documents.{documents_of}
use Rattle.xq_store.specs.declared.shelves.Cache.{Cache}
use Rattle.xq_store.specs.private.Shelves.{AreFronts}
use Rattle.xq_store.proofs.adoptions.list_old.Goals as goal

pub returns-clause-listed : goal.returns-clause-listed
returns-clause-listed g c ready is =
    IfOk-weaker c.unread.result (λ (s : Cache). s.addresses.value ≡ c.in-Some.addresses) (λ (s : Cache). s.addresses.value ≡ keys (documents_of (state g.S.Store c.args.conn.now).now))
    (λ s e. e ∙ c.in-Some.ensures.some ∙ c.in_ok-list.ensures.all ready is) c.unread.ensures.addresses

fronts_of : {E : Type 0} (addresses : List (List ℕ)) (r : Result Cache E) → IfOk r (λ (s : Cache). s.addresses.value ≡ addresses) → IfOk r (λ (s : Cache). (trees : List Tree) → length trees ≡ length addresses → AreFronts trees s.fronts.items)
    → IfOk r (λ (s : Cache). (trees : List Tree) → length trees ≡ length s.addresses.value → AreFronts trees s.fronts.items)
fronts_of addresses (Ok s) named fronts = λ trees n. fronts trees (n ∙ ap length named)
fronts_of addresses (Err e) named fronts = tt

pub returns-clause-fronts : goal.returns-clause-fronts
returns-clause-fronts g c = fronts_of c.in-Some.addresses c.unread.result c.unread.ensures.addresses c.unread.ensures.fronts
