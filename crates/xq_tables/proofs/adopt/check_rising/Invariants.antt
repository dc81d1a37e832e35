use Rattle.std.proofs.Common.{◌≡◌, length}
use Rattle.xq_tables.proofs.Adopts.{HaveRisen}
use Rattle.xq_tables.proofs.Streams.{IsUnderWay}
use Rattle.xq_tables.proofs.adopt.check_rising.Given as goal

abbrev pub invariant-loop-count : goal.invariant-loop-count
invariant-loop-count g l = (l.rows.conn.ghost_name ≡ l.fn.rows.conn.ghost_name) × IsUnderWay g.S.Store l.fn.rows.conn.now l.rows.conn.now (λ given. HaveRisen l.last given × (l.count ≡ length given))
