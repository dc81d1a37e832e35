use Rattle.std.proofs.Common.{◌≡◌, [], ◌∷◌, ◌∙◌, sym, subst, map}
use Rattle.std.specs.List.Sorted.{IsPermutation}
use Rattle.sqlite_trees.specs.Tree.{rowid}
use Rattle.sqlite.specs.Effect.{Database}
use Rattle.sqlite.specs.Held.{state}
use Rattle.xq_tables.specs.Documents.{IsReady}
use Rattle.xq_tables.specs.Labels.{label_rows, IsStoreSchema}
use Rattle.xq_tables.proofs.AdoptReads.{labels_are, labels_query, reads_labels, was_ready}
use Rattle.xq_tables.proofs.Adopts.{apart_seen, ints_seen}
use Rattle.xq_tables.proofs.Labelling.{labels_seen, none_high, none_low, zero_there}
use Rattle.xq_tables.proofs.Selects.{plain_under}
use Rattle.xq_tables.proofs.adopt.check_labels.Goals as goal

pub returns-then-not-branch-clause-err : goal.returns-then-not-branch-clause-err
returns-then-not-branch-clause-err g c ready none are =
    let labels = label_rows (state g.S.Store c.args.conn.now).now in
    let yes = (c.in_ok-are_numbered.ensures.ok ready).1 (zero_there labels are, none_low labels are, none_high labels are) in
    absurd (let f = sym yes ∙ c.if-not-branch.true in cc)

pub check_ids-requires-clause-plain : goal.check_ids-requires-clause-plain
check_ids-requires-clause-plain g c ready =
    let early = was_ready g.S.Store c.args.conn.now c.are_numbered.new.conn c.are_numbered.ensures.outside ready in
    plain_under c.are_numbered.new.conn.schema labels_query (λ made. (labels_are made).2) (subst (λ (d : Database). IsStoreSchema d.schema) (sym (c.are_numbered.ensures.same ready)) (c.requires.tables early))

pub returns-clause-ok : goal.returns-clause-ok
returns-clause-ok g c ready =
    let old = state g.S.Store c.args.conn.now in
    let mid = state g.S.Store c.are_numbered.new.conn in
    let later : IsReady mid = was_ready g.S.Store c.are_numbered.new.conn c.check_ids.new.conn c.check_ids.ensures.outside ready in
    let early = was_ready g.S.Store c.args.conn.now c.are_numbered.new.conn c.are_numbered.ensures.outside later in
    let same : mid.now ≡ old.now = c.are_numbered.ensures.same later in
    let bounded = (c.in_ok-are_numbered.ensures.ok later).0 c.if-not-branch.false in
    let ids = c.in_ok-_count.ensures.ok ready in
    let has : IsStoreSchema mid.now.schema = subst (λ (d : Database). IsStoreSchema d.schema) (sym same) (c.requires.tables early) in
    let seen = subst (λ (d : Database). IsPermutation (map (λ r. rowid r ∷ []) (label_rows d)) ids.1) same (reads_labels mid (state g.S.Store ids.0) ids.1 has ids.2) in
    labels_seen (label_rows old.now) (apart_seen (label_rows old.now) ids.1 seen ids.3) (ints_seen (label_rows old.now) ids.1 seen ids.4) bounded.0 bounded.1 bounded.2
