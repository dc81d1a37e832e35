use Rattle.std.proofs.Common.{◌≡◌, sym, subst, arith}
use Rattle.std.proofs.lemmas.Result.{err_from_is_err_and}
use Rattle.sqlite.specs.Effect.{Database}
use Rattle.sqlite.specs.Held.{state}
use Rattle.xq_tables.specs.Documents.{IsReady}
use Rattle.xq_tables.specs.Labels.{shown_rows, IsStoreSchema}
use Rattle.xq_tables.specs.private.Adopt.{AreNodes}
use Rattle.xq_tables.proofs.Adopts.{table_found}
use Rattle.xq_tables.proofs.AdoptReads.{nodes_are, nodes_query, reads_nodes, reads_rowids, rowids_are, rowids_query, select_for, was_ready}
use Rattle.xq_tables.proofs.Labelling.{as_many, held_labelled, no_runs}
use Rattle.xq_tables.proofs.Selects.{plain_under}
use Rattle.xq_tables.proofs.adopt.check_nodes.Goals as goal

pub check_ids-requires-clause-plain : goal.check_ids-requires-clause-plain
check_ids-requires-clause-plain g c ready = plain_under c.args.conn.now.schema rowids_query (λ made. (rowids_are made).2) (c.requires.tables ready)

pub check_documents-requires-clause-plain : goal.check_documents-requires-clause-plain
check_documents-requires-clause-plain g c ready =
    let early = was_ready g.S.Store c.args.conn.now c.check_ids.new.conn c.check_ids.ensures.outside ready in
    plain_under c.check_ids.new.conn.schema nodes_query (λ made. (nodes_are made).2) (subst (λ (d : Database). IsStoreSchema d.schema) (sym (c.check_ids.ensures.same ready)) (c.requires.tables early))

pub check_documents-requires-clause-select : goal.check_documents-requires-clause-select
check_documents-requires-clause-select g c ready =
    let early = was_ready g.S.Store c.args.conn.now c.check_ids.new.conn c.check_ids.ensures.outside ready in
    select_for c.check_ids.new.conn.schema (subst (λ (d : Database). IsStoreSchema d.schema) (sym (c.check_ids.ensures.same ready)) (c.requires.tables early))

pub returns-in_err-judged-clause-err : goal.returns-in_err-judged-clause-err
returns-in_err-judged-clause-err g c ready =
    let old = state g.S.Store c.args.conn.now in
    let mid = state g.S.Store c.check_ids.new.conn in
    let later : IsReady mid = was_ready g.S.Store c.check_ids.new.conn c.check_documents.new.conn c.check_documents.ensures.outside ready in
    let early = was_ready g.S.Store c.args.conn.now c.check_ids.new.conn c.check_ids.ensures.outside later in
    let same : mid.now ≡ old.now = c.check_ids.ensures.same later in
    let has : IsStoreSchema mid.now.schema = subst (λ (d : Database). IsStoreSchema d.schema) (sym same) (c.requires.tables early) in
    let p = err_from_is_err_and c.from_residual-in_err-judged.result c.from_residual-in_err-judged.ensures.1 in
    rw (p.1, p.2) (λ none.
    let others = c.in_err-judged.ensures.err ready none in
    no_runs old.now others.1 (subst (λ (d : Database). AreNodes (shown_rows d) others.1) same (reads_nodes mid (state g.S.Store others.0) others.1 has others.2)) others.3)

pub returns-then-named-all-clause-ok : goal.returns-then-named-all-clause-ok
returns-then-named-all-clause-ok g c ready labels =
    let old = state g.S.Store c.args.conn.now in
    let mid = state g.S.Store c.check_ids.new.conn in
    let later : IsReady mid = was_ready g.S.Store c.check_ids.new.conn c.check_documents.new.conn c.check_documents.ensures.outside ready in
    let early = was_ready g.S.Store c.args.conn.now c.check_ids.new.conn c.check_ids.ensures.outside later in
    let same : mid.now ≡ old.now = c.check_ids.ensures.same later in
    let has = c.requires.tables early in
    let then : IsStoreSchema mid.now.schema = subst (λ (d : Database). IsStoreSchema d.schema) (sym same) has in
    let ids = c.in_ok-all.ensures.ok later in
    let docs = c.in_ok-judged.ensures.ok ready in
    let are = subst (λ (d : Database). AreNodes (shown_rows d) docs.1) same (reads_nodes mid (state g.S.Store docs.0) docs.1 then docs.2) in
    held_labelled old.now ids.1 docs.1 c.in_ok-all.all c.in_ok-judged.judged.count has (reads_rowids old (state g.S.Store ids.0) ids.1 has ids.2) ids.5 are docs.4 ids.3 ids.4 (λ sorted. (docs.3 sorted).0) (omega (arith, c.if-named-all.true)) labels

pub returns-then-named-all-clause-found : goal.returns-then-named-all-clause-found
returns-then-named-all-clause-found g c ready =
    let old = state g.S.Store c.args.conn.now in
    let mid = state g.S.Store c.check_ids.new.conn in
    let later : IsReady mid = was_ready g.S.Store c.check_ids.new.conn c.check_documents.new.conn c.check_documents.ensures.outside ready in
    let early = was_ready g.S.Store c.args.conn.now c.check_ids.new.conn c.check_ids.ensures.outside later in
    let same : mid.now ≡ old.now = c.check_ids.ensures.same later in
    let then : IsStoreSchema mid.now.schema = subst (λ (d : Database). IsStoreSchema d.schema) (sym same) (c.requires.tables early) in
    let docs = c.in_ok-judged.ensures.ok ready in
    let are = subst (λ (d : Database). AreNodes (shown_rows d) docs.1) same (reads_nodes mid (state g.S.Store docs.0) docs.1 then docs.2) in
    let both = docs.3 are.sorted in
    let found = table_found (shown_rows old.now) docs.1 are both.0 c.in_ok-judged.judged.documents.items both.1 in
    record { listed = found.0; kept = found.1 }

pub returns-else-named-all-clause-err : goal.returns-else-named-all-clause-err
returns-else-named-all-clause-err g c ready none store =
    let old = state g.S.Store c.args.conn.now in
    let mid = state g.S.Store c.check_ids.new.conn in
    let later : IsReady mid = was_ready g.S.Store c.check_ids.new.conn c.check_documents.new.conn c.check_documents.ensures.outside ready in
    let early = was_ready g.S.Store c.args.conn.now c.check_ids.new.conn c.check_ids.ensures.outside later in
    let same : mid.now ≡ old.now = c.check_ids.ensures.same later in
    let has = c.requires.tables early in
    let then : IsStoreSchema mid.now.schema = subst (λ (d : Database). IsStoreSchema d.schema) (sym same) has in
    let ids = c.in_ok-all.ensures.ok later in
    let docs = c.in_ok-judged.ensures.ok ready in
    let are = subst (λ (d : Database). AreNodes (shown_rows d) docs.1) same (reads_nodes mid (state g.S.Store docs.0) docs.1 then docs.2) in
    let equal = as_many old.now ids.1 docs.1 c.in_ok-all.all c.in_ok-judged.judged.count has (reads_rowids old (state g.S.Store ids.0) ids.1 has ids.2) ids.5 are docs.4 store in
    omega (arith, c.if-named-all.false, equal)
