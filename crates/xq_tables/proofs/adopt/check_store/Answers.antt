use Rattle.std.proofs.Common.{◌≡◌, ◌∙◌, IfOk, sym, subst}
use Rattle.std.proofs.lemmas.Result.{err_from_is_err_and}
use Rattle.sqlite.specs.Effect.{Database}
use Rattle.sqlite.specs.Held.{state}
use Rattle.xq_tables.specs.declared.faults.OpenFault.TheVariants.{NotAStore}
use Rattle.xq_tables.specs.Documents.{AreLabels, IsReady, IsStore}
use Rattle.xq_tables.specs.Found.{AreFound}
use Rattle.xq_tables.specs.Labels.{label_rows, IsStoreSchema}
use Rattle.xq_tables.specs.private.Adopt.{HoldLabelled}
use Rattle.xq_tables.proofs.AdoptReads.{each_err, on_ok, was_ready}
use Rattle.xq_tables.proofs.Labelling.{store_seen}
use Rattle.xq_tables.proofs.adopt.check_store.Goals as goal

pub check_labels-requires-clause-tables : goal.check_labels-requires-clause-tables
check_labels-requires-clause-tables g c ready = subst (λ (d : Database). IsStoreSchema d.schema) (sym (c.check_edition.ensures.same ready)) c.requires.tables

pub check_nodes-requires-clause-tables : goal.check_nodes-requires-clause-tables
check_nodes-requires-clause-tables g c ready =
    let early = was_ready g.S.Store c.check_edition.new.conn c.check_labels.new.conn c.check_labels.ensures.outside ready in
    subst (λ (d : Database). IsStoreSchema d.schema) (sym (c.check_labels.ensures.same ready ∙ c.check_edition.ensures.same early)) c.requires.tables

pub returns-in_err-check_edition-clause-err : goal.returns-in_err-check_edition-clause-err
returns-in_err-check_edition-clause-err g c ready =
    let p = err_from_is_err_and c.from_residual.result c.from_residual.ensures.1 in
    rw (p.1, p.2) (λ none store. c.in_err-check_edition.ensures.err ready.0 none store.layout)

pub returns-in_err-check_labels-clause-err : goal.returns-in_err-check_labels-clause-err
returns-in_err-check_labels-clause-err g c ready =
    let early = was_ready g.S.Store c.check_edition.new.conn c.check_labels.new.conn c.check_labels.ensures.outside ready in
    let p = err_from_is_err_and c.from_residual-in_err-check_labels.result c.from_residual-in_err-check_labels.ensures.1 in
    rw (p.1, p.2) (λ none store. c.in_err-check_labels.ensures.err ready none (subst (λ (d : Database). AreLabels (label_rows d)) (sym (c.check_edition.ensures.same early)) store.sound.labels))

pub returns-clause-ok : goal.returns-clause-ok
returns-clause-ok g c ready =
    let old = state g.S.Store c.args.conn.now in
    let one = state g.S.Store c.check_edition.new.conn in
    let two = state g.S.Store c.check_labels.new.conn in
    let later : IsReady two = was_ready g.S.Store c.check_labels.new.conn c.check_nodes.new.conn c.check_nodes.ensures.outside ready in
    let early : IsReady one = was_ready g.S.Store c.check_edition.new.conn c.check_labels.new.conn c.check_labels.ensures.outside later in
    let first : one.now ≡ old.now = c.check_edition.ensures.same early in
    let second : two.now ≡ old.now = c.check_labels.ensures.same later ∙ first in
    let edition = c.in_ok-check_edition.ensures.ok early.0 in
    let labels = subst (λ (d : Database). AreLabels (label_rows d)) first (c.in_ok-check_labels.ensures.ok later) in
    on_ok (AreLabels (label_rows two.now) → HoldLabelled two.now) (IsStore old.now) c.check_nodes.result
    (λ holds. store_seen old.now c.requires.tables edition labels (subst HoldLabelled second (holds (subst (λ (d : Database). AreLabels (label_rows d)) (sym second) labels)))) (c.check_nodes.ensures.ok ready)

pub returns-clause-found : goal.returns-clause-found
returns-clause-found g c ready =
    let old = state g.S.Store c.args.conn.now in
    let one = state g.S.Store c.check_edition.new.conn in
    let two = state g.S.Store c.check_labels.new.conn in
    let later : IsReady two = was_ready g.S.Store c.check_labels.new.conn c.check_nodes.new.conn c.check_nodes.ensures.outside ready in
    let early : IsReady one = was_ready g.S.Store c.check_edition.new.conn c.check_labels.new.conn c.check_labels.ensures.outside later in
    let second : two.now ≡ old.now = c.check_labels.ensures.same later ∙ c.check_edition.ensures.same early in
    subst (λ (d : Database). IfOk c.check_nodes.result (λ found. AreFound d found.items)) second (c.check_nodes.ensures.found ready)

pub returns-clause-err : goal.returns-clause-err
returns-clause-err g c ready =
    let old = state g.S.Store c.args.conn.now in
    let one = state g.S.Store c.check_edition.new.conn in
    let two = state g.S.Store c.check_labels.new.conn in
    let later : IsReady two = was_ready g.S.Store c.check_labels.new.conn c.check_nodes.new.conn c.check_nodes.ensures.outside ready in
    let early : IsReady one = was_ready g.S.Store c.check_edition.new.conn c.check_labels.new.conn c.check_labels.ensures.outside later in
    let second : two.now ≡ old.now = c.check_labels.ensures.same later ∙ c.check_edition.ensures.same early in
    each_err (λ fault. fault ≡ NotAStore → ¬ IsStore two.now) (λ fault. fault ≡ NotAStore → ¬ IsStore old.now) c.check_nodes.result (λ fault bad none store. bad none (subst IsStore (sym second) store)) (c.check_nodes.ensures.err ready)
