use Rattle.std.proofs.Common.{◌≡◌, not, ap, ◌∙◌, length, ℕ, arith, rules}
use Rattle.std.proofs.lemmas.Result.{IfOk-weaker}
use Rattle.sqlite.specs.Held.{state}
use Rattle.sqlite.specs.State.{HasCleanDisk}
use Rattle.xq_tables.specs.Documents.{IsReady}
use Rattle.xq_tables.specs.private.Streams.{GivesRows}
use Rattle.std.specs.List.Sorted.{IsSorted}
use Rattle.xq_tables.specs.declared.faults.OpenFault.TheVariants.{NotAStore}
use Rattle.xq_tables.specs.declared.findings.JudgedRows.{JudgedRows}
use Rattle.xq_tables.specs.private.Adopt.{by_place, AreDocumentRuns, AreFoundIn, ShowsDocuments, ShowsNoDocuments, ShowsOthers}
use Rattle.xq_tables.proofs.AdoptReads.{each_err}
use Rattle.xq_tables.proofs.AdoptStreams.{documents_streamed, others_streamed}
use Rattle.xq_tables.proofs.Selects.{refused_keeps, refused_opens}
use Rattle.xq_tables.proofs.Streams.{begun_opens, stays_same}
use Rattle.xq_tables.proofs.adopt.check_documents.Goals as goal

pub returns-in_err-rows-clause-outside : goal.returns-in_err-rows-clause-outside
returns-in_err-rows-clause-outside g c =
    let refused = rw c.in_err-rows.was at c.query.follows.holds-at-none in
    record {
      mode = refused.mode c.requires.outside;
      clean = refused.survives.clean;
      was_open = λ up. refused_opens (state g.S.Store c.args.conn.now) (state g.S.Store c.query.follows.lender-at-none) c.args.text.now _ _ up.1 (refused.err up.0);
    }

pub returns-in_err-rows-clause-same : goal.returns-in_err-rows-clause-same
returns-in_err-rows-clause-same g c up =
    let failed = (rw c.in_err-rows.was at c.query.follows.holds-at-none).err up.0 in
    let outside = c.is_autocommit-idle.ensures.value ∙ ap not c.requires.outside in
    refused_keeps (state g.S.Store c.args.conn.now) (state g.S.Store c.query.follows.lender-at-none) c.args.text.now _ _ (c.requires.plain (omega (arith, (rw c.in_err-rows.was at c.query.follows.holds-at-none).survives.clean, up.0), refused_opens (state g.S.Store c.args.conn.now) (state g.S.Store c.query.follows.lender-at-none) c.args.text.now _ _ up.1 failed)) (c.is_autocommit-idle.ensures.settled outside) up.1 failed

pub returns-clause-outside : goal.returns-clause-outside
returns-clause-outside g c =
    record {
      mode = search rules;
      clean = search rules;
      was_open = λ up.
          let late : IsReady (state g.S.Store c.check_runs.new.rows.conn.now) = search rules in
          let early : HasCleanDisk (state g.S.Store c.in_ok-rows.rows.conn.now) = omega (arith, late.0, c.check_runs.ensures.clean) in
          begun_opens g.S.Store c.args.text.now _ c.args.conn.now c.in_ok-rows.rows.conn.now (c.in_ok-rows.ensures.begun early) (c.check_runs.ensures.stays late).0;
    }

pub returns-clause-same : goal.returns-clause-same
returns-clause-same g c up =
    let late : IsReady (state g.S.Store c.check_runs.new.rows.conn.now) = search rules in
    let early : HasCleanDisk (state g.S.Store c.in_ok-rows.rows.conn.now) = omega (arith, late.0, c.check_runs.ensures.clean) in
    let outside = c.is_autocommit-idle.ensures.value ∙ ap not c.requires.outside in
    let same = stays_same g.S.Store c.args.text.now _ c.args.conn.now c.in_ok-rows.rows.conn.now (c.in_ok-rows.ensures.begun early) (c.requires.plain (omega (arith, early, c.in_ok-rows.ensures.survives.clean), begun_opens g.S.Store c.args.text.now _ c.args.conn.now c.in_ok-rows.rows.conn.now (c.in_ok-rows.ensures.begun early) (c.check_runs.ensures.stays late).0)) c.check_runs.new.rows.conn.now (c.is_autocommit-idle.ensures.settled outside) (c.check_runs.ensures.stays late) in
    search (rules, same)

pub returns-clause-ok : goal.returns-clause-ok
returns-clause-ok g c up =
    let late : IsReady (state g.S.Store c.check_runs.new.rows.conn.now) = search rules in
    let early : HasCleanDisk (state g.S.Store c.in_ok-rows.rows.conn.now) = omega (arith, late.0, c.check_runs.ensures.clean) in
    IfOk-weaker c.check_runs.result (λ (it : JudgedRows). GivesRows g.S.Store c.in_ok-rows.rows.conn.now c.check_runs.new.rows.conn.now (λ given. (IsSorted by_place given → AreDocumentRuns given × AreFoundIn given it.documents.items) × (it.count ≡ length given)))
    (λ (it : JudgedRows). ShowsDocuments g.S.Store c.args.text.now c.args.conn.now it.documents.items it.count)
    (λ it gives. documents_streamed g.S.Store c.args.conn.now c.in_ok-rows.rows.conn.now c.check_runs.new.rows.conn.now c.args.text.now (c.in_ok-rows.ensures.begun early) (c.requires.plain (omega (arith, early, c.in_ok-rows.ensures.survives.clean), begun_opens g.S.Store c.args.text.now _ c.args.conn.now c.in_ok-rows.rows.conn.now (c.in_ok-rows.ensures.begun early) (c.check_runs.ensures.stays late).0)) it.documents.items it.count gives) (c.check_runs.ensures.ok late.0)

pub returns-clause-err : goal.returns-clause-err
returns-clause-err g c up =
    let late : IsReady (state g.S.Store c.check_runs.new.rows.conn.now) = search rules in
    let early : HasCleanDisk (state g.S.Store c.in_ok-rows.rows.conn.now) = omega (arith, late.0, c.check_runs.ensures.clean) in
    each_err (λ fault. fault ≡ NotAStore → ShowsNoDocuments g.S.Store c.in_ok-rows.rows.conn.now c.check_runs.new.rows.conn.now) (λ fault. fault ≡ NotAStore → ShowsOthers g.S.Store c.args.text.now c.args.conn.now) c.check_runs.result
    (λ fault shows none. others_streamed g.S.Store c.args.conn.now c.in_ok-rows.rows.conn.now c.check_runs.new.rows.conn.now c.args.text.now (c.in_ok-rows.ensures.begun early) (c.requires.plain (omega (arith, early, c.in_ok-rows.ensures.survives.clean), begun_opens g.S.Store c.args.text.now _ c.args.conn.now c.in_ok-rows.rows.conn.now (c.in_ok-rows.ensures.begun early) (c.check_runs.ensures.stays late).0)) (c.requires.select (omega (arith, early, c.in_ok-rows.ensures.survives.clean), begun_opens g.S.Store c.args.text.now _ c.args.conn.now c.in_ok-rows.rows.conn.now (c.in_ok-rows.ensures.begun early) (c.check_runs.ensures.stays late).0)) late.1 (shows none)) (c.check_runs.ensures.err late)
