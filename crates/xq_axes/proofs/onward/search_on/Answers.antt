use Rattle.std.proofs.Common.{◌≡◌, ◌+◌, ◌-◌, ◌<◌, ◌≤◌, [], length, get_or, eqb-true, refl, sym, ap, subst, ◌∙◌, arith}
use Rattle.std.specs.Prelude.{slice_get}
use Rattle.std.proofs.lemmas.Bool.{eqb-false}
use Rattle.xq_trees.specs.Forest.{count}
use Rattle.xq_trees.specs.Tree.{nodes}
use Rattle.xq_trees.specs.declared.Axis.TheVariants as axis
use Rattle.xq_sources.specs.Sources.{tree_at}
use Rattle.xq_axes.specs.Reads.{span, span_end}
use Rattle.xq_axes.specs.Scans.{region}
use Rattle.xq_axes.specs.private.Hits.{is_wanted, below_where}
use Rattle.xq_axes.specs.private.Waiting.{next_place}
use Rattle.xq_axes.proofs.Picking.{same_places}
use Rattle.xq_axes.proofs.Ranges.{empty_step}
use Rattle.xq_axes.proofs.Scans.{onward_bound}
use Rattle.xq_axes.proofs.GoingOn.{OnSoFar, on_start, so_far_next, so_far_moved, on_rows, next_from, first_from, last_row}
use Rattle.xq_axes.proofs.onward.search_on.Goals as goal

pub returns-then-is_empty-clause-found : goal.returns-then-is_empty-clause-found
returns-then-is_empty-clause-found g c = λ k there up. (
    let t = tree_at (g.L.TreeSource.forest c.args.source.now) c.args.tree in
    c.new.ensures.items ∙ empty_step axis.FollowingSibling c.args.test.now t c.args.places.now (count (nodes t)) (eqb-true (length c.args.places.now) 0 (sym c.is_empty.ensures ∙ c.if-is_empty.true)))

pub loop-low-init : goal.loop-low-init
loop-low-init g c =
    let vs = c.args.places.now in
    let t = tree_at (g.L.TreeSource.forest c.end_of_node.new.source) c.args.tree in
    let none = eqb-false (length vs) 0 (sym c.is_empty.ensures ∙ c.if-is_empty.false) in
    let start = c.new-2.ensures in
    let low = c.next_place-low.result in
    let e : low ≡ next_place [] (slice_get vs 0) 0 c.min-last.result =
    c.next_place-low.ensures ∙ ap (λ ls. next_place ls (slice_get c.new-2.result.contexts.places.now c.new-2.result.contexts.met) 0 c.min-last.result) start.levels
    ∙ ap (λ us. next_place [] (slice_get us c.new-2.result.contexts.met) 0 c.min-last.result) start.places ∙ ap (λ m. next_place [] (slice_get vs m) 0 c.min-last.result) start.met in
    record {
      forest = refl;
      clean = λ k. k;
      singles = refl;
      looks = refl;
      first = (let f = first_from vs 0 c.min-last.result (omega (arith, none)) in omega (arith, f, e));
      rows = λ k. omega arith;
      looked = λ k there up. (
          let old = tree_at (g.L.TreeSource.forest c.args.source.now) c.args.tree in
          let same : old ≡ t = sym (ap (λ f. tree_at f c.args.tree) c.in_ok-end_of_node.ensures.keeps) in
          let end : c.min-last.result + 1 ≡ count (nodes t) = subst (λ u. c.min-last.result + 1 ≡ count (nodes u)) same (last_row old c.in_ok-end_of_node.field-0 c.min-last.result (c.in_ok-end_of_node.ensures.end k) c.min-last.ensures) in
          let begin = so_far_next c.args.test.now t vs 0 c.min-last.result 0 low [] [] there end (on_start c.args.test.now t vs up) e in (
            subst (λ m. OnSoFar c.args.test.now t vs low m c.new-2.result.levels c.new-3.result.items) (sym start.met)
                (subst (λ ls. OnSoFar c.args.test.now t vs low 0 ls c.new-3.result.items) (sym start.levels)
                (subst (λ xs. OnSoFar c.args.test.now t vs low 0 [] xs) (sym c.new-3.ensures.items) begin)),
            refl,
            start.places,
          ));
    }

pub returns-in_err-walk-clause-rows : goal.returns-in_err-walk-clause-rows
returns-in_err-walk-clause-rows g c = λ k. (
    let inv = c.loop-low.invariant in
    let vs = c.args.places.now in
    let some = eqb-false (length vs) 0 (sym c.is_empty.ensures ∙ c.if-is_empty.false) in
    let was = c.in_err-walk.ensures.was_clean k in
    let old = tree_at (g.L.TreeSource.forest c.args.source.now) c.args.tree in
    let t = tree_at (g.L.TreeSource.forest c.end_of_node.new.source) c.args.tree in
    let same : old ≡ t = sym (ap (λ f. tree_at f c.args.tree) c.in_ok-end_of_node.ensures.keeps) in
    let end : c.min-last.result + 1 ≡ count (nodes t) = subst (λ u. c.min-last.result + 1 ≡ count (nodes u)) same (last_row old c.in_ok-end_of_node.field-0 c.min-last.result (c.in_ok-end_of_node.ensures.end (inv.clean was)) c.min-last.ensures) in
    let low = c.loop-low.low in
    let high = c.min-high.result in
    let read = subst (λ f. (g.L.TreeSource.meter c.walk.new.source).rows ≤ (g.L.TreeSource.meter c.loop-low.source).rows + (span_end (tree_at f c.args.tree) (span low high) - low)) inv.forest (c.in_err-walk.ensures.rows k) in
    let more = c.saturating_add.ensures in
    let to = c.min-high.ensures in
    let test = c.loop-low-test.true in
    let all = on_rows t (get_or vs 0 0) low high c.min-last.result (count (nodes t)) (g.L.TreeSource.meter c.end_of_node.new.source).rows (g.L.TreeSource.meter c.loop-low.source).rows (g.L.TreeSource.meter c.walk.new.source).rows (inv.rows was) read inv.first (omega (arith, more, to, test)) (omega (arith, to)) end (omega (arith, to, end)) in
    let most = subst (λ u. count (nodes u) - get_or vs 0 0 ≤ length (region axis.FollowingSibling old vs)) same (onward_bound old vs (omega (arith, some))) in
    let first = c.in_ok-end_of_node.ensures.rows in
    omega (arith, all, most, first))

pub returns-in_err-walk-clause-singles : goal.returns-in_err-walk-clause-singles
returns-in_err-walk-clause-singles g c =
    let some = eqb-false (length c.args.places.now) 0 (sym c.is_empty.ensures ∙ c.if-is_empty.false) in
    let one = c.in_ok-end_of_node.ensures.singles in
    let none = c.in_err-walk.ensures.singles in
    let inv = c.loop-low.invariant.singles in
    omega (arith, some, one, none, inv)

pub loop-low-preserved : goal.loop-low-preserved
loop-low-preserved g c =
    let inv = c.loop-low.invariant in
    let vs = c.args.places.now in
    let t = tree_at (g.L.TreeSource.forest c.end_of_node.new.source) c.args.tree in
    let old = tree_at (g.L.TreeSource.forest c.args.source.now) c.args.tree in
    let same : old ≡ t = sym (ap (λ f. tree_at f c.args.tree) c.in_ok-end_of_node.ensures.keeps) in
    let last = c.min-last.result in
    let low = c.loop-low.low in
    let high = c.min-high.result in
    let next = c.next_place-low-in-loop-low.result in
    let p = c.loop-low.picker in
    let q = c.walk.new.visitor in
    let more = c.saturating_add.ensures in
    let to = c.min-high.ensures in
    let test = c.loop-low-test.true in
    let from : high + 1 ≤ next = (let e = c.next_place-low-in-loop-low.ensures in let f = next_from q.judge.levels (slice_get q.judge.contexts.places.now q.judge.contexts.met) (high + 1) last in omega (arith, e, f)) in
    let end : g.L.TreeSource.is_clean c.end_of_node.new.source → last + 1 ≡ count (nodes t) =
    λ k. subst (λ u. last + 1 ≡ count (nodes u)) same (last_row old c.in_ok-end_of_node.field-0 last (c.in_ok-end_of_node.ensures.end k) c.min-last.ensures) in
    record {
      forest = c.in_ok-walk.ensures.keeps ∙ inv.forest;
      clean = λ k. inv.clean (c.in_ok-walk.ensures.was_clean k);
      singles = c.in_ok-walk.ensures.singles ∙ inv.singles;
      looks = c.in_ok-walk.ensures.looks ∙ inv.looks;
      first = (let f = inv.first in omega (arith, f, more, to, test, from));
      rows = λ k. (
          let was = c.in_ok-walk.ensures.was_clean k in
          let read = subst (λ f. (g.L.TreeSource.meter c.walk.new.source).rows ≤ (g.L.TreeSource.meter c.loop-low.source).rows + (span_end (tree_at f c.args.tree) (span low high) - low)) inv.forest (c.in_ok-walk.ensures.rows k) in
          on_rows t (get_or vs 0 0) low high last next (g.L.TreeSource.meter c.end_of_node.new.source).rows (g.L.TreeSource.meter c.loop-low.source).rows (g.L.TreeSource.meter c.walk.new.source).rows (inv.rows was) read inv.first (omega (arith, more, to, test)) (omega (arith, to)) (end (inv.clean was)) from);
      looked = λ k there up. (
          let was = c.in_ok-walk.ensures.was_clean k in
          let is_end = end (inv.clean was) in
          let u = tree_at (g.L.TreeSource.forest c.loop-low.source) c.args.tree in
          let here : u ≡ t = ap (λ f. tree_at f c.args.tree) inv.forest in
          let l = inv.looked was there up in
          let begin = so_far_moved c.args.test.now p.test.now t u vs p.judge.contexts.places.now low low p.judge.contexts.met p.judge.levels p.found.items (sym l.1) (sym here) (sym l.2) refl l.0 in
          let read = c.in_ok-walk.ensures.read k p ((refl, refl, begin.on), refl, begin.is_found) in
          let c_u : count (nodes u) ≡ count (nodes t) = ap (λ w. count (nodes w)) here in
          let n : span_end u (span low high) ≡ high + 1 = omega (arith, more, to, test, is_end, c_u) in
          let places = read.0.0 ∙ l.2 in
          let after = so_far_moved p.test.now c.args.test.now u t p.judge.contexts.places.now vs (span_end u (span low high)) (high + 1) q.judge.contexts.met q.judge.levels q.found.items l.1 here l.2 n
          (record { within = omega (arith, n, to, is_end, c_u); on = read.0.2; is_found = read.2 }) in (
            so_far_next c.args.test.now t vs (high + 1) last q.judge.contexts.met next q.judge.levels q.found.items there is_end after
                (c.next_place-low-in-loop-low.ensures ∙ ap (λ us. next_place q.judge.levels (slice_get us q.judge.contexts.met) (high + 1) last) places),
            read.1 ∙ l.1,
            places,
          ));
    }

pub returns-clause-found : goal.returns-clause-found
returns-clause-found g c = λ k there up. (
    let inv = c.loop-low.invariant in
    let vs = c.args.places.now in
    let old = tree_at (g.L.TreeSource.forest c.args.source.now) c.args.tree in
    let t = tree_at (g.L.TreeSource.forest c.end_of_node.new.source) c.args.tree in
    let same : old ≡ t = sym (ap (λ f. tree_at f c.args.tree) c.in_ok-end_of_node.ensures.keeps) in
    let end : c.min-last.result + 1 ≡ count (nodes t) = subst (λ u. c.min-last.result + 1 ≡ count (nodes u)) same (last_row old c.in_ok-end_of_node.field-0 c.min-last.result (c.in_ok-end_of_node.ensures.end (inv.clean k)) c.min-last.ensures) in
    let l = (inv.looked k (λ i h. subst (λ u. get_or vs i 0 < count (nodes u)) same (there i h).node_in) up).0 in
    let past = c.loop-low-test.false in
    let w = l.within in
    let n : c.loop-low.low ≡ count (nodes t) = omega (arith, past, w, end) in
    same_places c.into_places.result _ _ c.into_places.ensures
    (l.is_found ∙ ap (below_where (is_wanted axis.FollowingSibling c.args.test.now t vs)) n ∙ ap (λ u. below_where (is_wanted axis.FollowingSibling c.args.test.now u vs) (count (nodes u))) (sym same)))

pub returns-clause-rows : goal.returns-clause-rows
returns-clause-rows g c = λ k. (
    let inv = c.loop-low.invariant in
    let vs = c.args.places.now in
    let some = eqb-false (length vs) 0 (sym c.is_empty.ensures ∙ c.if-is_empty.false) in
    let old = tree_at (g.L.TreeSource.forest c.args.source.now) c.args.tree in
    let t = tree_at (g.L.TreeSource.forest c.end_of_node.new.source) c.args.tree in
    let same : old ≡ t = sym (ap (λ f. tree_at f c.args.tree) c.in_ok-end_of_node.ensures.keeps) in
    let all = inv.rows k in
    let most = subst (λ u. count (nodes u) - get_or vs 0 0 ≤ length (region axis.FollowingSibling old vs)) same (onward_bound old vs (omega (arith, some))) in
    let first = c.in_ok-end_of_node.ensures.rows in
    omega (arith, all, most, first))

pub returns-clause-singles : goal.returns-clause-singles
returns-clause-singles g c =
    let some = eqb-false (length c.args.places.now) 0 (sym c.is_empty.ensures ∙ c.if-is_empty.false) in
    let one = c.in_ok-end_of_node.ensures.singles in
    let inv = c.loop-low.invariant.singles in
    omega (arith, some, one, inv)
