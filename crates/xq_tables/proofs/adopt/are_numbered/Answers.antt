use Rattle.std.proofs.Common.{[], ◌∷◌, ◌∙◌, sym, subst, map, filter}
use Rattle.std.specs.List.Sorted.{IsPermutation}
use Rattle.sqlite_trees.specs.Tree.{rowid}
use Rattle.sqlite.specs.Effect.{Database}
use Rattle.sqlite.specs.Held.{state}
use Rattle.xq_tables.specs.Documents.{IsReady}
use Rattle.xq_tables.specs.Labels.{label_rows, IsStoreSchema}
use Rattle.xq_tables.specs.private.Adopt.{has_zero, is_high, is_low}
use Rattle.xq_tables.proofs.AdoptReads.{high_is, high_query, high_tests, low_is, low_query, low_tests, reads_some, was_ready, zero_is, zero_passes, zero_query, zero_tests}
use Rattle.xq_tables.proofs.Labelling.{bounded_by, some_seen}
use Rattle.xq_tables.proofs.Selects.{and_true, plain_under}
use Rattle.xq_tables.proofs.adopt.are_numbered.Goals as goal

pub has_rows-requires-clause-plain : goal.has_rows-requires-clause-plain
has_rows-requires-clause-plain g c ready = plain_under c.args.conn.now.schema zero_query (λ made. (zero_is made).2) (c.requires.tables ready)

pub has_rows-requires-2-clause-plain : goal.has_rows-requires-2-clause-plain
has_rows-requires-2-clause-plain g c ready =
    let early = was_ready g.S.Store c.args.conn.now c.has_rows.new.conn c.has_rows.ensures.outside ready in
    plain_under c.has_rows.new.conn.schema low_query (λ made. (low_is made).2) (subst (λ (d : Database). IsStoreSchema d.schema) (sym (c.has_rows.ensures.same ready)) (c.requires.tables early))

pub has_rows-requires-3-clause-plain : goal.has_rows-requires-3-clause-plain
has_rows-requires-3-clause-plain g c ready =
    let mid = was_ready g.S.Store c.has_rows.new.conn c.has_rows-2.new.conn c.has_rows-2.ensures.outside ready in
    let early = was_ready g.S.Store c.args.conn.now c.has_rows.new.conn c.has_rows.ensures.outside mid in
    plain_under c.has_rows-2.new.conn.schema high_query (λ made. (high_is made).2) (subst (λ (d : Database). IsStoreSchema d.schema) (sym (c.has_rows-2.ensures.same ready ∙ c.has_rows.ensures.same mid)) (c.requires.tables early))

pub returns-clause-ok : goal.returns-clause-ok
returns-clause-ok g c ready =
    let old = state g.S.Store c.args.conn.now in
    let one = state g.S.Store c.has_rows.new.conn in
    let two = state g.S.Store c.has_rows-2.new.conn in
    let three = state g.S.Store c.has_rows-3.new.conn in
    let later : IsReady two = was_ready g.S.Store c.has_rows-2.new.conn c.has_rows-3.new.conn c.has_rows-3.ensures.outside ready in
    let mid : IsReady one = was_ready g.S.Store c.has_rows.new.conn c.has_rows-2.new.conn c.has_rows-2.ensures.outside later in
    let early : IsReady old = was_ready g.S.Store c.args.conn.now c.has_rows.new.conn c.has_rows.ensures.outside mid in
    let has = c.requires.tables early in
    let first = c.has_rows.ensures.same mid in
    let second = c.has_rows-2.ensures.same later ∙ first in
    let zero = c.in_ok-has_zero.ensures.ok mid.0 in
    let low = c.in_ok-has_low.ensures.ok later.0 in
    let high = c.in_ok-has_high.ensures.ok ready.0 in
    let of_one = subst (λ (d : Database). IsStoreSchema d.schema) (sym first) has in
    let of_two = subst (λ (d : Database). IsStoreSchema d.schema) (sym second) has in
    let labels = label_rows old.now in
    let zeros = reads_some old one zero.0 has zero_query zero_tests has_zero zero_passes zero_is zero.1 in
    let lows = reads_some one two low.0 of_one low_query low_tests is_low (λ r. and_true _) low_is low.1 in
    let highs = reads_some two three high.0 of_two high_query high_tests is_high (λ r. and_true _) high_is high.1 in
    bounded_by labels c.in_ok-has_zero.has_zero c.in_ok-has_low.has_low c.in_ok-has_high.has_high _ c.is_numbering.ensures
    (some_seen has_zero labels zero.0 _ zeros zero.2)
    (some_seen is_low labels low.0 _ (subst (λ (d : Database). IsPermutation (map (λ r. rowid r ∷ []) (filter is_low (label_rows d))) low.0) first lows) low.2)
    (some_seen is_high labels high.0 _ (subst (λ (d : Database). IsPermutation (map (λ r. rowid r ∷ []) (filter is_high (label_rows d))) high.0) second highs) high.2)
