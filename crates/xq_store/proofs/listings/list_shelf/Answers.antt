use Rattle.std.proofs.Common.{◌≡◌, Result, Ok, Err, IfOk, List, ℕ, map, length, string_bytes, ap, ◌∙◌}
use Rattle.std.proofs.lemmas.List.{length-map}
use Rattle.sqlite.specs.Effect.{Database}
use Rattle.sqlite.specs.Held.{state}
use Rattle.xq_trees.specs.Tree.{Tree}
use Rattle.xq_tables.specs.Documents.{documents_of, tree_at}
use Rattle.xq_tables.specs.Labels.{shown_rows}
use Rattle.xq_store.specs.declared.shelves.Cache.{Cache}
use Rattle.std.specs.FinMap.{keys}
use Rattle.xq_store.specs.private.Keeps.{AreOf}
use Rattle.xq_store.specs.private.Shelves.{AreFronts}
use Rattle.xq_tables.proofs.Keys.{keys_are}
use Rattle.xq_store.proofs.listings.list_shelf.Goals as goal

-- a shelf without a row
unread_of : {E : Type 0} (db : Database) (addresses : List (List ℕ)) (r : Result Cache E) → addresses ≡ keys (documents_of db) → IfOk r (λ s. s.addresses.value ≡ addresses)
    → IfOk r (λ s. (trees : List Tree) → length trees ≡ length addresses → AreFronts trees s.fronts.items) → IfOk r (λ s. AreOf db s.addresses.value s.fronts.items)
unread_of db addresses (Err e) listed named fronts = tt
unread_of db addresses (Ok s) listed named fronts = record {
  listed = named ∙ listed;
  rows = fronts (map (tree_at (shown_rows db)) s.addresses.value) (length-map s.addresses.value (tree_at (shown_rows db)) ∙ ap length named);
}

pub returns-clause-shelf : goal.returns-clause-shelf
returns-clause-shelf g c ready is =
    let db = (state g.S.Store c.args.conn.now).now in
    let listed = c.in-Some.ensures.some ∙ keys_are (shown_rows db) (map string_bytes c.in_ok-list.list.items) is.named is.whole (c.in_ok-list.ensures.all ready is) in
    unread_of db c.in-Some.addresses c.unread.result listed c.unread.ensures.addresses c.unread.ensures.fronts
