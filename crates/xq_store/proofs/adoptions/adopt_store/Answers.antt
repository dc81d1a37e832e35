use Rattle.std.proofs.Common.{◌∙◌, map, sym, subst}
use Rattle.sqlite.specs.Effect.{Database}
use Rattle.sqlite.specs.Held.{state}
use Rattle.xq_tables.specs.Documents.{tree_at}
use Rattle.xq_tables.specs.Labels.{shown_rows}
use Rattle.xq_store.specs.private.Keeps.{AreOf}
use Rattle.xq_store.specs.private.Shelves.{AreFronts}
use Rattle.xq_store.proofs.adoptions.adopt_store.Goals as goal

pub returns-clause-shelf : goal.returns-clause-shelf
returns-clause-shelf g c ready =
    let db = (state g.S.Store c.args.conn.now).now in
    let found = c.in_ok-found.ensures.found ready in
    let shelf = c.in_ok-shelf.shelf in
    let named = c.in_ok-shelf.ensures.addresses in
    subst (λ (d : Database). AreOf d shelf.addresses.value shelf.fronts.items) (sym (c.check_store.ensures.same ready)) (record {
      listed = named ∙ found.listed;
      rows = subst (λ l. AreFronts (map (tree_at (shown_rows db)) l) shelf.fronts.items) (sym named) (c.in_ok-shelf.ensures.fronts (tree_at (shown_rows db)) found.kept);
    })
