use Rattle.std.proofs.Common.{◌≡◌, length}
use Rattle.xq_tables.specs.private.Adopt.{HasJudged}
use Rattle.xq_tables.proofs.Streams.{IsUnderWay}
use Rattle.xq_tables.proofs.judgements.check_runs.Given as goal

abbrev pub invariant-loop-count : goal.invariant-loop-count
invariant-loop-count g l = (l.rows.conn.ghost_name ≡ l.fn.rows.conn.ghost_name) × IsUnderWay g.S.Store l.fn.rows.conn.now l.rows.conn.now (λ given. HasJudged given l.findings × (l.count ≡ length given))
