use Rattle.sqlite.specs.Held.{state}
use Rattle.xq_tables.specs.Tables.{layout_rows}
use Rattle.xq_tables.proofs.AdoptReads.{old_plain_for, was_ready}
use Rattle.xq_tables.proofs.Adopts.{apart_seen, ints_seen}
use Rattle.xq_tables.proofs.Moving.{layout_ids_are, layout_ids_text, reads_layout_ids}
use Rattle.xq_tables.proofs.carries.check_layout.Goals as goal

pub check_ids-requires-clause-plain : goal.check_ids-requires-clause-plain
check_ids-requires-clause-plain g c ready = old_plain_for layout_ids_text (λ kind. (layout_ids_are kind).2) c.args.conn.now.schema (c.requires.tables ready)

pub returns-clause-ok : goal.returns-clause-ok
returns-clause-ok g c ready =
    let old = state g.S.Store c.args.conn.now in
    let early = was_ready g.S.Store c.args.conn.now c.check_ids.new.conn c.check_ids.ensures.outside ready in
    let ids = c.in_ok-_count.ensures.ok ready in
    let seen = reads_layout_ids old (state g.S.Store ids.0) ids.1 (c.requires.tables early) ids.2 in
    (apart_seen (layout_rows old.now) ids.1 seen ids.3, ints_seen (layout_rows old.now) ids.1 seen ids.4)
