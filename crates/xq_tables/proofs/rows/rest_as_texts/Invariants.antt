use Rattle.std.proofs.Common.{◌≡◌, map, string_bytes}
use Rattle.sqlite_value.specs.Order.{Row, column}
use Rattle.sqlite_value.specs.declared.value.Value.TheVariants.{Text}
use Rattle.xq_tables.proofs.Streams.{IsUnderWay}
use Rattle.xq_tables.proofs.rows.rest_as_texts.Given as goal

abbrev pub invariant-loop : goal.invariant-loop
invariant-loop g l = (l.rows.conn.ghost_name ≡ l.fn.rows.conn.ghost_name) × IsUnderWay g.S.Store l.fn.rows.conn.now l.rows.conn.now (λ given. map Text (map string_bytes l.texts.items) ≡ map (λ (r : Row). column r 0) given)
