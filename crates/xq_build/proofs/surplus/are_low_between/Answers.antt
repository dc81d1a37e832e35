use Rattle.std.proofs.Common.{◌≡◌, ◌∙◌, ◌+◌, ◌-◌, ◌≤◌, length, ap, sym, arith}
use Rattle.xq_sources.specs.Sources.{tree_at}
use Rattle.xq_build.specs.private.Content.{are_low}
use Rattle.xq_build.proofs.Subtrees.{none_left, lent_run, run_splits}
use Rattle.xq_build.proofs.Surpluses.{run_high, run_low}
use Rattle.xq_build.proofs.surplus.are_low_between.Goals as goal

pub returns-then-not-are_low_lent-clause-low : goal.returns-then-not-are_low_lent-clause-low
returns-then-not-are_low_lent-clause-low g c = λ h.
    (let i = c.loop-next.invariant in
    let trees = g.L.TreeSource.forest c.args.source.now in
    let run = c.lent-run.result in
    let is = lent_run trees (g.L.TreeSource.forest c.loop-next.source) c.args.tree c.loop-next.next c.args.high run (g.L.RowLender.lent c.fetch.new.self) i.keeps c.lent-run.ensures (c.in_ok-fetch.ensures.found h) in
    sym (i.left (c.fetch.ensures.was_clean h) ∙ run_high (tree_at trees c.args.tree) c.loop-next.next c.args.high run is (sym c.are_low_lent.ensures ∙ c.if-not-are_low_lent.true)))

pub loop-next-preserved : goal.loop-next-preserved
loop-next-preserved g c = record {
  keeps = c.fetch.ensures.keeps ∙ c.loop-next.invariant.keeps;
  was_clean = λ h. c.loop-next.invariant.was_clean (c.fetch.ensures.was_clean h);
  left = λ h.
      (let i = c.loop-next.invariant in
      let trees = g.L.TreeSource.forest c.args.source.now in
      let t = tree_at trees c.args.tree in
      let run = c.lent-run.result in
      let is = lent_run trees (g.L.TreeSource.forest c.loop-next.source) c.args.tree c.loop-next.next c.args.high run (g.L.RowLender.lent c.fetch.new.self) i.keeps c.lent-run.ensures (c.in_ok-fetch.ensures.found h) in
      let fits : length run ≤ c.args.high + 1 - c.loop-next.next = (run_splits t c.loop-next.next c.args.high run is).fits in
      let n : c.saturating_add-next.result ≡ c.loop-next.next + length run = omega (arith, fits) in
      i.left (c.fetch.ensures.was_clean h) ∙ run_low t c.loop-next.next c.args.high c.saturating_add-next.result run is n (sym c.are_low_lent.ensures ∙ c.if-not-are_low_lent.false));
}

pub returns-clause-low : goal.returns-clause-low
returns-clause-low g c = λ h.
    (let t = tree_at (g.L.TreeSource.forest c.args.source.now) c.args.tree in
    sym (c.loop-next.invariant.left h ∙ ap are_low (none_left t c.loop-next.next c.args.high (omega arith))))
