use Rattle.std.proofs.Common.{◌≡◌, ◌+◌, ◌∙◌, inl, inr, length, List}
use Rattle.std.proofs.lemmas.Result.{err_from_is_err_and}
use Rattle.std.specs.List.Sorted.{IsSorted}
use Rattle.sqlite_value.specs.Order.{Row}
use Rattle.xq_tables.specs.private.Adopt.{AreDocumentRuns, AreFoundIn, AreNoDocuments, HasJudged, by_place}
use Rattle.xq_tables.specs.private.Streams.{GivesRows}
use Rattle.xq_tables.proofs.Judging.{judged_last, refuted_last}
use Rattle.xq_tables.proofs.Streams.{one_longer, one_more, at_end, so_far, gives_then}
use Rattle.xq_tables.proofs.judgements.check_runs.Goals as goal

pub returns-in-Ok-None-clause-ok : goal.returns-in-Ok-None-clause-ok
returns-in-Ok-None-clause-ok g c late =
    let moved = c.next.follows.holds-at-none in
    let first = c.args.rows.now.conn.now in
    let mid = c.loop-count.rows.conn.now in
    let now = c.next.follows.lender-at-none.conn.now in
    let P : List Row → Type 0 = λ given. HasJudged given c.loop-count.findings × (c.loop-count.count ≡ length given) in
    let Q : List Row → Type 0 = λ given. (IsSorted by_place given → AreDocumentRuns given × AreFoundIn given c.in_ok-closed-in-Ok-None.closed.documents.items) × (c.loop-count.count ≡ length given) in
    let ended : GivesRows g.S.Store first now P =
    at_end g.S.Store first mid now P c.loop-count.invariant.1 moved.survives.clean (λ clean. rw c.in-Ok-None.is at (moved.same clean)) late (rw (c.in-Ok-None.is, c.in-Ok-None.field-0-is) at (moved.ok late)) in
    gives_then g.S.Store first now P Q (λ rows it. (judged_last rows c.loop-count.findings it.0 c.in_ok-closed-in-Ok-None.closed.documents.items c.in_ok-closed-in-Ok-None.ensures.ok, it.1)) ended

pub returns-in_err-closed-in-Ok-None-clause-err : goal.returns-in_err-closed-in-Ok-None-clause-err
returns-in_err-closed-in-Ok-None-clause-err g c ready =
    let moved = c.next.follows.holds-at-none in
    let first = c.args.rows.now.conn.now in
    let mid = c.loop-count.rows.conn.now in
    let now = c.next.follows.lender-at-none.conn.now in
    let P : List Row → Type 0 = λ given. HasJudged given c.loop-count.findings × (c.loop-count.count ≡ length given) in
    let Q : List Row → Type 0 = λ given. IsSorted by_place given → ¬ AreDocumentRuns given in
    let ended : GivesRows g.S.Store first now P =
    at_end g.S.Store first mid now P c.loop-count.invariant.1 moved.survives.clean (λ clean. rw c.in-Ok-None.is at (moved.same clean)) ready.0 (rw (c.in-Ok-None.is, c.in-Ok-None.field-0-is) at (moved.ok ready.0)) in
    let p = err_from_is_err_and c.from_residual.result c.from_residual.ensures.1 in
    rw (p.1, p.2) (λ none. inr (gives_then g.S.Store first now P Q (λ rows it. refuted_last rows c.loop-count.findings it.0 (c.in_err-closed-in-Ok-None.ensures.err none)) ended))

pub returns-in_err-findings-clause-err : goal.returns-in_err-findings-clause-err
returns-in_err-findings-clause-err g c ready =
    let moved = c.next.follows.holds-at-none in
    let first = c.args.rows.now.conn.now in
    let mid = c.loop-count.rows.conn.now in
    let now = c.next.follows.lender-at-none.conn.now in
    let P : List Row → Type 0 = λ given. HasJudged given c.loop-count.findings × (c.loop-count.count ≡ length given) in
    let p = err_from_is_err_and c.from_residual-in_err-findings.result c.from_residual-in_err-findings.ensures.1 in
    rw (p.1, p.2) (λ none. inl (so_far g.S.Store first now AreNoDocuments
    (one_more g.S.Store first mid now P c.loop-count.invariant.1 moved.survives.clean (λ clean. rw c.in-Ok-Some.is at (moved.same clean)) c.in-Ok-Some.row.now AreNoDocuments moved.mode (λ clean. rw (c.in-Ok-Some.is, c.in-Ok-Some.field-0-is) at (moved.ok clean))
    (λ rows it. c.in_err-findings.ensures.err none rows it.0)) ready))

pub loop-count-preserved : goal.loop-count-preserved
loop-count-preserved g c =
    let moved = c.next.follows.holds-at-none in
    let first = c.args.rows.now.conn.now in
    let mid = c.loop-count.rows.conn.now in
    let now = c.next.follows.lender-at-none.conn.now in
    let P : List Row → Type 0 = λ given. HasJudged given c.loop-count.findings × (c.loop-count.count ≡ length given) in
    let Q : List Row → Type 0 = λ given. HasJudged given c.in_ok-findings.findings × (c.loop-count.count + 1 ≡ length given) in (
      moved.same_reference ∙ c.loop-count.invariant.0,
      one_more g.S.Store first mid now P c.loop-count.invariant.1 moved.survives.clean (λ clean. rw c.in-Ok-Some.is at (moved.same clean)) c.in-Ok-Some.row.now Q moved.mode (λ clean. rw (c.in-Ok-Some.is, c.in-Ok-Some.field-0-is) at (moved.ok clean))
          (λ rows it. (c.in_ok-findings.ensures.ok rows it.0, one_longer c.loop-count.count rows c.in-Ok-Some.row.now it.1)),
    )
