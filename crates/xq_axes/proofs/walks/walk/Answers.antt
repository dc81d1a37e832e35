use Rattle.std.proofs.Common.{◌≡◌, ◌+◌, length, sym, ap, ◌∙◌, subst, arith}
use Rattle.xq_sources.specs.Sources.{tree_at, rows_between}
use Rattle.xq_sources.specs.Lenders.{IsRun}
use Rattle.xq_sources.specs.Meters.{Readings}
use Rattle.xq_axes.specs.Reads.{span, AreRowsIn}
use Rattle.xq_axes.proofs.Runs.{run_in_turn}
use Rattle.xq_axes.proofs.RunBounds.{run_within, run_counted, run_last, counted_rows}
use Rattle.xq_axes.proofs.walks.walk.Goals as goal

pub returns-in_err-passed-clause-rows : goal.returns-in_err-passed-clause-rows
returns-in_err-passed-clause-rows g c = λ k. (
    let inv = c.loop-next.invariant in
    let was = c.in_ok-fetch.ensures.was_clean k in
    let t = tree_at (g.L.TreeSource.forest c.args.source.now) c.args.tree in
    let s = span c.args.low c.args.high in
    let next = c.loop-next.next in
    let run = g.L.RowLender.lent c.fetch.new.self in
    let found : IsRun (rows_between t next c.args.high) run =
    subst (λ f. IsRun (rows_between (tree_at f c.args.tree) next c.args.high) run) inv.forest (c.in_ok-fetch.ensures.found k) in
    let r = counted_rows (g.L.TreeSource.meter c.loop-next.source) (g.L.TreeSource.meter c.fetch.new.self) (length run) c.in_ok-fetch.ensures.counts in
    let b = run_counted t s next (next + length run) _ _ _ run found inv.from (omega arith) (omega arith) (inv.rows was) r in
    omega (arith, b))

pub loop-next-preserved : goal.loop-next-preserved
loop-next-preserved g c =
    let inv = c.loop-next.invariant in
    let t = tree_at (g.L.TreeSource.forest c.args.source.now) c.args.tree in
    let s = span c.args.low c.args.high in
    let next = c.loop-next.next in
    let run = g.L.RowLender.lent c.fetch.new.self in
    let rows = c.lent-rows.result in
    let passed = c.in_ok-passed.passed in
    let n : length rows ≡ length run = ap length c.lent-rows.ensures in
    let found : g.L.TreeSource.is_clean c.fetch.new.self → IsRun (rows_between t next c.args.high) run =
    λ k. subst (λ f. IsRun (rows_between (tree_at f c.args.tree) next c.args.high) run) inv.forest (c.in_ok-fetch.ensures.found k) in
    record {
      forest = c.in_ok-fetch.ensures.keeps ∙ inv.forest;
      clean = λ k. inv.clean (c.in_ok-fetch.ensures.was_clean k);
      from = omega arith;
      read = λ k start r. (
          let turn : AreRowsIn t s next rows = subst (AreRowsIn t s next) (sym c.lent-rows.ensures) (run_in_turn t s next run inv.from (found k)) in
          let before = inv.read (c.in_ok-fetch.ensures.was_clean k) start r in
          let w = run_within t s next run (found k) (omega arith) before.0 in
          let v = c.in_ok-passed.ensures.read start t s next (omega (arith, c.ranges.high.fits)) turn (omega (arith, w, n)) before.1 in
          let to = v.0 in
          let exact : next + passed ≡ c.saturating_add-next.result = omega (arith, to, c.ranges.low.fits, c.ranges.high.fits) in
          (omega (arith, to, exact), subst (λ m. g.V.Visitor.has_read start c.visit_all.new.visitor t s m) exact v.1));
      rows = λ k. (
          let r = counted_rows (g.L.TreeSource.meter c.loop-next.source) (g.L.TreeSource.meter c.fetch.new.self) (length run) c.in_ok-fetch.ensures.counts in
          let l = c.in_ok-passed.ensures.all in
          let b = run_counted t s next (next + passed) _ _ _ run (found k) inv.from (omega arith) (omega (arith, l, n)) (inv.rows (c.in_ok-fetch.ensures.was_clean k)) r in
          omega (arith, b, c.ranges.high.fits));
      singles = ap (λ (m : Readings). m.singles) c.in_ok-fetch.ensures.counts ∙ inv.singles;
      looks = ap (λ (m : Readings). m.looks) c.in_ok-fetch.ensures.counts ∙ inv.looks;
    }

pub returns-then-is_empty-clause-read : goal.returns-then-is_empty-clause-read
returns-then-is_empty-clause-read g c = λ k start r. (
    let inv = c.loop-next.invariant in
    let was = c.in_ok-fetch.ensures.was_clean k in
    let t = tree_at (g.L.TreeSource.forest c.args.source.now) c.args.tree in
    let s = span c.args.low c.args.high in
    let run = g.L.RowLender.lent c.fetch.new.self in
    let rows = c.lent-rows.result in
    let n : length rows ≡ length run = ap length c.lent-rows.ensures in
    let found : IsRun (rows_between t c.loop-next.next c.args.high) run =
    subst (λ f. IsRun (rows_between (tree_at f c.args.tree) c.loop-next.next c.args.high) run) inv.forest (c.in_ok-fetch.ensures.found k) in
    let z : length rows ≡ 0 = ap length (c.is_empty.ensures.0 c.if-is_empty.true) in
    let before = inv.read was start r in
    let e = run_last t s c.loop-next.next run found (sym n ∙ z) inv.from (omega arith) before.0 in
    subst (λ m. g.V.Visitor.has_read start c.loop-next.visitor t s m) e before.1)
