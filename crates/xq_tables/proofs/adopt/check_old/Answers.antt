use Rattle.std.proofs.Common.{◌≡◌, [], ◌∷◌, ◌∙◌, sym, subst, map}
use Rattle.std.proofs.lemmas.Result.{err_from_is_err_and}
use Rattle.std.specs.List.Sorted.{IsPermutation}
use Rattle.sqlite_trees.specs.Tree.{rowid}
use Rattle.sqlite.specs.Effect.{Database}
use Rattle.sqlite.specs.Held.{state}
use Rattle.xq_tables.specs.Documents.{IsReady}
use Rattle.xq_tables.specs.Labels.{shown_rows}
use Rattle.xq_tables.specs.Tables.{node_rows, IsOldSchema}
use Rattle.xq_tables.specs.private.Adopt.{AreNodes}
use Rattle.xq_tables.proofs.AdoptReads.{old_nodes_are, old_nodes_query, old_plain_for, old_rowids_are, old_rowids_query, old_select_for, reads_old_nodes, reads_old_rowids, was_ready}
use Rattle.xq_tables.proofs.Labelling.{no_old_runs, old_seen}
use Rattle.xq_tables.proofs.adopt.check_old.Goals as goal

pub check_ids-requires-clause-plain : goal.check_ids-requires-clause-plain
check_ids-requires-clause-plain g c ready = old_plain_for old_rowids_query (λ first. (old_rowids_are first).2) c.check_edition.new.conn.schema (subst (λ (d : Database). IsOldSchema d.schema) (sym (c.check_edition.ensures.same ready)) c.requires.tables)

pub check_documents-requires-clause-plain : goal.check_documents-requires-clause-plain
check_documents-requires-clause-plain g c ready =
    let early = was_ready g.S.Store c.check_edition.new.conn c.check_ids.new.conn c.check_ids.ensures.outside ready in
    old_plain_for old_nodes_query (λ first. (old_nodes_are first).2) c.check_ids.new.conn.schema (subst (λ (d : Database). IsOldSchema d.schema) (sym (c.check_ids.ensures.same ready ∙ c.check_edition.ensures.same early)) c.requires.tables)

pub check_documents-requires-clause-select : goal.check_documents-requires-clause-select
check_documents-requires-clause-select g c ready =
    let early = was_ready g.S.Store c.check_edition.new.conn c.check_ids.new.conn c.check_ids.ensures.outside ready in
    old_select_for c.check_ids.new.conn.schema (subst (λ (d : Database). IsOldSchema d.schema) (sym (c.check_ids.ensures.same ready ∙ c.check_edition.ensures.same early)) c.requires.tables)

pub returns-in_err-check_edition-clause-err : goal.returns-in_err-check_edition-clause-err
returns-in_err-check_edition-clause-err g c ready =
    let p = err_from_is_err_and c.from_residual.result c.from_residual.ensures.1 in
    rw (p.1, p.2) (λ none store. c.in_err-check_edition.ensures.err ready.0 none store.layout)

pub returns-in_err-_nodes-clause-err : goal.returns-in_err-_nodes-clause-err
returns-in_err-_nodes-clause-err g c ready =
    let old = state g.S.Store c.args.conn.now in
    let two = state g.S.Store c.check_ids.new.conn in
    let later : IsReady two = was_ready g.S.Store c.check_ids.new.conn c.check_documents.new.conn c.check_documents.ensures.outside ready in
    let early = was_ready g.S.Store c.check_edition.new.conn c.check_ids.new.conn c.check_ids.ensures.outside later in
    let same : two.now ≡ old.now = c.check_ids.ensures.same later ∙ c.check_edition.ensures.same early in
    let has : IsOldSchema two.now.schema = subst (λ (d : Database). IsOldSchema d.schema) (sym same) c.requires.tables in
    let p = err_from_is_err_and c.from_residual-in_err-_nodes.result c.from_residual-in_err-_nodes.ensures.1 in
    rw (p.1, p.2) (λ none.
    let others = c.in_err-_nodes.ensures.err ready none in
    no_old_runs old.now others.1 (subst (λ (d : Database). AreNodes (shown_rows d) others.1) same (reads_old_nodes two (state g.S.Store others.0) others.1 has others.2)) others.3)

pub returns-clause-ok : goal.returns-clause-ok
returns-clause-ok g c ready =
    let old = state g.S.Store c.args.conn.now in
    let one = state g.S.Store c.check_edition.new.conn in
    let two = state g.S.Store c.check_ids.new.conn in
    let later : IsReady two = was_ready g.S.Store c.check_ids.new.conn c.check_documents.new.conn c.check_documents.ensures.outside ready in
    let early : IsReady one = was_ready g.S.Store c.check_edition.new.conn c.check_ids.new.conn c.check_ids.ensures.outside later in
    let first : one.now ≡ old.now = c.check_edition.ensures.same early in
    let second : two.now ≡ old.now = c.check_ids.ensures.same later ∙ first in
    let of_one : IsOldSchema one.now.schema = subst (λ (d : Database). IsOldSchema d.schema) (sym first) c.requires.tables in
    let of_two : IsOldSchema two.now.schema = subst (λ (d : Database). IsOldSchema d.schema) (sym second) c.requires.tables in
    let ids = c.in_ok-_count.ensures.ok later in
    let docs = c.in_ok-_nodes.ensures.ok ready in
    old_seen old.now ids.1 docs.1 c.requires.tables (c.in_ok-check_edition.ensures.ok early.0)
    (subst (λ (d : Database). IsPermutation (map (λ r. rowid r ∷ []) (node_rows d)) ids.1) first (reads_old_rowids one (state g.S.Store ids.0) ids.1 of_one ids.2)) ids.3 ids.4
    (subst (λ (d : Database). AreNodes (shown_rows d) docs.1) second (reads_old_nodes two (state g.S.Store docs.0) docs.1 of_two docs.2)) (λ sorted. (docs.3 sorted).0)
