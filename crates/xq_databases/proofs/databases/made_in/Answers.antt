use Rattle.std.proofs.Common.{◌∙◌, ap, arith, subst, sym}
use Rattle.sqlite_trees.proofs.Doubt.{clean_of}
use Rattle.sqlite_wal.specs.Reads.{are_clean}
use Rattle.sqlite_store.specs.FileStore.{view}
use Rattle.sqlite_store.specs.Listed.{catalog_rows}
use Rattle.sqlite_store.specs.Listing.{listed_from}
use Rattle.sqlite.specs.Files.{IsEmpty}
use Rattle.sqlite.proofs.OpenLemmas.{pool_files}
use Rattle.xq_databases.proofs.databases.made_in.Goals as goal

pub returns-in-Ok-over-clause-clean : goal.returns-in-Ok-over-clause-clean
returns-in-Ok-over-clause-clean g c now =
    let was = clean_of (view c.in-Ok-create.store).is_clean (omega (arith, c.in-Ok-over.ensures.clean)) in
    sym ((pool_files c.in-Ok.fresh.pool).1 ∙ ap (λ f. are_clean g.D.Disk f.0 f.1) c.in-Ok.ensures.files) ∙ c.in-Ok-create.ensures.honest was

pub returns-in-Ok-over-clause-made : goal.returns-in-Ok-over-clause-made
returns-in-Ok-over-clause-made g c now =
    let was = clean_of (view c.in-Ok-create.store).is_clean (omega (arith, c.in-Ok-over.ensures.clean)) in
    let opens = c.in-Ok-over.ensures.opens now in
    let e = c.in-Ok-create.ensures in
    let none : IsEmpty (view c.in-Ok-create.store).trees = (
      λ tree low. ap (λ d. d tree) e.ready.clean ∙ e.empty was tree low,
      rw was (catalog_rows _ _ _ ∙ ap (listed_from 0) (e.schema ∙ c.in-Ok.ensures.none)),
    ) in
    ((opens.1 opens.0.is_open).0, subst IsEmpty (sym (c.in-Ok-over.ensures.trees now)) none)
