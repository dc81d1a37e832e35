use Rattle.std.proofs.Common.{◌≡◌, ◌≤◌, ◌-◌, inr, ℕ, ◌+◌, ◌∷◌, [], ◌++◌, ◌&&◌, cond, length, min, set, true, refl, sym, ap, subst, ◌∙◌, arith}
use Rattle.xq_trees.specs.Tree.{Tree}
use Rattle.xq_trees.specs.Rows.{Row, rows, row_at}
use Rattle.xq_sources.specs.Lent.{placed_lent, row_lent}
use Rattle.xq_sources.specs.Sources.{tree_at}
use Rattle.xq_axes.specs.Reads.{span, span_end, IsSized}
use Rattle.xq_axes.specs.private.Hits.{is_wanted, row_passes, below_where, IsReached}
use Rattle.xq_axes.specs.private.Downward.{axis_of, level_of, IsJudged, IsSearched}
use Rattle.xq_axes.specs.declared.downward.Below.{Below}
use Rattle.xq_sources.specs.Meters.{Readings}
use Rattle.xq_axes.proofs.Sizes.{one_row, exact_span, node_of}
use Rattle.xq_axes.proofs.Picking.{picked, wanted_is}
use Rattle.xq_axes.proofs.Searching.{found_before, reached_before, met_on, own_is_hit, entered, searched}
use Rattle.xq_axes.proofs.downward.search_one.Goals as goal

pub returns-clause-searched : goal.returns-clause-searched
returns-clause-searched g c = λ k n after next before. (
    let trees = g.L.TreeSource.forest c.args.source.now in
    let t = tree_at trees c.args.tree in
    let old = c.args.picker.now in
    let vs = old.judge.contexts.places.now in
    let which = g.D.Direction.which in
    let d = which old.judge.direction in
    let test = old.test.now in
    let v = c.args.place in
    let was = c.in_ok-find_below.ensures.was_clean k in
    let there = c.in_ok-fetch_row.ensures.exists was in
    let x = c.in-Some.row in
    let read = one_row c.lent.result (placed_lent x) (v, row_at (rows t) v) (c.lent.ensures ∙ c.in_ok-fetch_row.ensures.found was) c.in-Some.ensures.row in
    let pre : x.pre ≡ v = ap (λ (p : ℕ × Row). p.0) read in
    let rx : row_lent x ≡ row_at (rows t) v = ap (λ (p : ℕ × Row). p.1) read in
    let sized : IsSized t v x.size = record { is_tree = c.in_ok-fetch_row.ensures.is_tree was; is_there = there.node_in; size = ap (λ (r : Row). r.size) rx } in
    let level : x.level ≡ level_of t v = ap (λ (r : Row). r.level) rx in
    let low = c.saturating_add-low.result in
    let high = c.saturating_add-high.result in
    let ex = exact_span t v x.size low high sized c.saturating_add-low.ensures c.saturating_add-high.ensures in
    let found = old.found.items in
    let met = c.enter.new.self.contexts.met in
    let reached_v = met_on d vs old.judge.contexts.met met v (reached_before d test t vs n v old.judge.contexts.met (length old.judge.marks) found before after next)
    (λ r. subst (λ m. IsReached vs met (m + 1)) pre (c.in_ok-is_own.ensures.met before.rising (subst (IsReached vs old.judge.contexts.met) (sym pre) r))) in
    let m = c.in_ok-is_own.ensures.marks in
    let new = c.enter.new.self in
    let e0 = entered d test t vs n v old.judge.contexts.met (length old.judge.marks) found before after next met x.level x.size old.judge.marks refl sized level m.0 reached_v in
    let e1 = subst (λ l. IsJudged d t vs (span l (v + x.size)) l met (set old.judge.marks x.level true) true) (sym ex.low_is) e0 in
    let e2 = subst (λ h. IsJudged d t vs (span low h) low met (set old.judge.marks x.level true) true) (sym ex.high_is) e1 in
    let e3 = subst (λ ms. IsJudged d t vs (span low high) low met ms true) (sym m.1) e2 in
    let e4 = subst (λ b. IsJudged d t vs (span low high) low met new.marks b) (sym c.in_ok-is_own.ensures.open) e3 in
    let p = c.pick.new.self in
    let je : p.judge ≡ new = c.in_ok-pick.ensures.judge in
    let e5 = subst (λ (j : Below _). IsJudged d t vs (span low high) low j.contexts.met j.marks j.is_open) (sym je) e4 in
    let last : p.judge.last ≡ high = ap (λ (j : Below _). j.last) je ∙ c.in_ok-is_own.ensures.last ∙ ap (λ y. min (y + x.size) 4294967295) pre ∙ sym c.saturating_add-high.ensures in
    let own = c.in_ok-is_own.is_own in
    let w = wanted_is (axis_of d) test test t vs v x own rx refl (c.in_ok-is_own.ensures.own ∙ own_is_hit d test t vs n v old.judge.contexts.met (length old.judge.marks) found before after next) in
    let f0 = c.in_ok-pick.ensures.found ∙ ap (λ q. found ++ cond (own && row_passes test (row_lent x)) (q ∷ []) []) pre
    ∙ picked (is_wanted (axis_of d) test t vs) v found (own && row_passes test (row_lent x)) (found_before d test t vs n v old.judge.contexts.met (length old.judge.marks) found before after next) w
    ∙ ap (below_where (is_wanted (axis_of d) test t vs)) (sym ex.low_is) in
    let q = c.find_below.new.picker in
    let same : tree_at (g.L.TreeSource.forest c.fetch_row.new.self) c.args.tree ≡ t = ap (λ f. tree_at f c.args.tree) c.in_ok-fetch_row.ensures.keeps in
    let Start : Tree → Type 0 = λ u. ((p.judge.direction ≡ old.judge.direction) × (p.judge.contexts.places.now ≡ vs) × (p.judge.last ≡ high) × IsJudged d u vs (span low high) low p.judge.contexts.met p.judge.marks p.judge.is_open)
    × (p.test.now ≡ test) × (p.found.items ≡ below_where (is_wanted (axis_of d) test u vs) low) in
    let start : Start t = ((ap (λ (j : Below _). j.direction) je ∙ c.in_ok-is_own.ensures.direction, ap (λ (j : Below _). j.contexts.places.now) je ∙ c.in_ok-is_own.ensures.places, last, e5), c.in_ok-pick.ensures.test, f0) in
    let End : Tree → Type 0 = λ u. ((q.judge.direction ≡ old.judge.direction) × (q.judge.contexts.places.now ≡ vs) × (q.judge.last ≡ high) × IsJudged d u vs (span low high) (span_end u (span low high)) q.judge.contexts.met q.judge.marks q.judge.is_open)
    × (q.test.now ≡ test) × (q.found.items ≡ below_where (is_wanted (axis_of d) test u vs) (span_end u (span low high))) in
    let ended = subst End same (c.in_ok-find_below.ensures.read k old (subst Start (sym same) start)) in
    let j0 = subst (λ m. IsJudged d t vs (span low high) m q.judge.contexts.met q.judge.marks q.judge.is_open) ex.end_is ended.0.3 in
    let j1 = subst (λ l. IsJudged d t vs (span l high) (v + 1 + x.size) q.judge.contexts.met q.judge.marks q.judge.is_open) ex.low_is j0 in
    let j2 = subst (λ h. IsJudged d t vs (span (v + 1) h) (v + 1 + x.size) q.judge.contexts.met q.judge.marks q.judge.is_open) ex.high_is j1 in
    let f1 = ended.2 ∙ ap (below_where (is_wanted (axis_of d) test t vs)) ex.end_is in
    let done = searched d test t vs n v old.judge.contexts.met (length old.judge.marks) found before after next x.size q.judge.contexts.met q.judge.marks q.judge.is_open q.found.items sized j2 f1 in
    let h = ex.high_is in
    let last : v + 1 + x.size ≡ c.from.result + 1 = omega (arith, h) in
    (omega (arith, h), ended.0.0, ended.0.1, ended.1, subst (λ m. IsSearched d test t vs m q.judge.contexts.met (length q.judge.marks) q.found.items) last done))

pub returns-clause-ends : goal.returns-clause-ends
returns-clause-ends g c = λ k. (
    let trees = g.L.TreeSource.forest c.args.source.now in
    let t = tree_at trees c.args.tree in
    let v = c.args.place in
    let was = c.in_ok-find_below.ensures.was_clean k in
    let there = c.in_ok-fetch_row.ensures.exists was in
    let x = c.in-Some.row in
    let read = one_row c.lent.result (placed_lent x) (v, row_at (rows t) v) (c.lent.ensures ∙ c.in_ok-fetch_row.ensures.found was) c.in-Some.ensures.row in
    let rx : row_lent x ≡ row_at (rows t) v = ap (λ (p : ℕ × Row). p.1) read in
    let sized : IsSized t v x.size = record { is_tree = c.in_ok-fetch_row.ensures.is_tree was; is_there = there.node_in; size = ap (λ (r : Row). r.size) rx } in
    let low = c.saturating_add-low.result in
    let high = c.saturating_add-high.result in
    let ex = exact_span t v x.size low high sized c.saturating_add-low.ensures c.saturating_add-high.ensures in
    let h = ex.high_is in
    let s = sized.size in
    let w = (node_of t v there.node_in).ends in
    (omega (arith, h, s), w))

pub returns-clause-rows : goal.returns-clause-rows
returns-clause-rows g c = λ k. (
    let trees = g.L.TreeSource.forest c.args.source.now in
    let t = tree_at trees c.args.tree in
    let v = c.args.place in
    let was = c.in_ok-find_below.ensures.was_clean k in
    let there = c.in_ok-fetch_row.ensures.exists was in
    let x = c.in-Some.row in
    let read = one_row c.lent.result (placed_lent x) (v, row_at (rows t) v) (c.lent.ensures ∙ c.in_ok-fetch_row.ensures.found was) c.in-Some.ensures.row in
    let rx : row_lent x ≡ row_at (rows t) v = ap (λ (p : ℕ × Row). p.1) read in
    let sized : IsSized t v x.size = record { is_tree = c.in_ok-fetch_row.ensures.is_tree was; is_there = there.node_in; size = ap (λ (r : Row). r.size) rx } in
    let low = c.saturating_add-low.result in
    let high = c.saturating_add-high.result in
    let ex = exact_span t v x.size low high sized c.saturating_add-low.ensures c.saturating_add-high.ensures in
    let same : tree_at (g.L.TreeSource.forest c.fetch_row.new.self) c.args.tree ≡ t = ap (λ f. tree_at f c.args.tree) c.in_ok-fetch_row.ensures.keeps in
    let counted = ap (λ (r : Readings). r.rows) c.in_ok-fetch_row.ensures.counts in
    let more = subst (λ u. (g.L.TreeSource.meter c.find_below.new.source).rows ≤ (g.L.TreeSource.meter c.fetch_row.new.self).rows + (span_end u (span low high) - low)) same (c.in_ok-find_below.ensures.rows k) in
    let e = ex.end_is in
    let l = ex.low_is in
    let s = sized.size in
    inr (there.node_in, omega (arith, counted, more, e, l, s)))

pub returns-in_err-find_below-clause-rows : goal.returns-in_err-find_below-clause-rows
returns-in_err-find_below-clause-rows g c = λ k. (
    let trees = g.L.TreeSource.forest c.args.source.now in
    let t = tree_at trees c.args.tree in
    let v = c.args.place in
    let was = c.in_err-find_below.ensures.was_clean k in
    let there = c.in_ok-fetch_row.ensures.exists was in
    let x = c.in-Some.row in
    let read = one_row c.lent.result (placed_lent x) (v, row_at (rows t) v) (c.lent.ensures ∙ c.in_ok-fetch_row.ensures.found was) c.in-Some.ensures.row in
    let rx : row_lent x ≡ row_at (rows t) v = ap (λ (p : ℕ × Row). p.1) read in
    let sized : IsSized t v x.size = record { is_tree = c.in_ok-fetch_row.ensures.is_tree was; is_there = there.node_in; size = ap (λ (r : Row). r.size) rx } in
    let low = c.saturating_add-low.result in
    let high = c.saturating_add-high.result in
    let ex = exact_span t v x.size low high sized c.saturating_add-low.ensures c.saturating_add-high.ensures in
    let same : tree_at (g.L.TreeSource.forest c.fetch_row.new.self) c.args.tree ≡ t = ap (λ f. tree_at f c.args.tree) c.in_ok-fetch_row.ensures.keeps in
    let counted = ap (λ (r : Readings). r.rows) c.in_ok-fetch_row.ensures.counts in
    let more = subst (λ u. (g.L.TreeSource.meter c.find_below.new.source).rows ≤ (g.L.TreeSource.meter c.fetch_row.new.self).rows + (span_end u (span low high) - low)) same (c.in_err-find_below.ensures.rows k) in
    let e = ex.end_is in
    let l = ex.low_is in
    let s = sized.size in
    inr (there.node_in, omega (arith, counted, more, e, l, s)))
