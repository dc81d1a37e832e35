use Rattle.std.proofs.Common.{◌≡◌, ◌∙◌, ◌++◌, ◌+◌, ◌-◌, ◌≤◌, List, length, ap, sym, arith, map, string_bytes}
use Rattle.std.proofs.lemmas.Result.{err_from_is_err_and}
use Rattle.xq_trees.specs.Printing.{text_from}
use Rattle.xq_sources.specs.Meters.{Readings}
use Rattle.xq_sources.specs.Sources.{tree_at}
use Rattle.xq_build.specs.private.Leaves.{Leaf, lowered}
use Rattle.xq_build.proofs.Subtrees.{none_left, none_lent, lent_run, run_splits}
use Rattle.xq_build.proofs.Counted.{run_counted}
use Rattle.xq_build.proofs.Written.{appended, nodes_next, nodes_refused}
use Rattle.xq_build.proofs.printer.append_nodes.Goals as goal

pub returns-in_err-depth-clause-appends : goal.returns-in_err-depth-clause-appends
returns-in_err-depth-clause-appends g c = λ h.
    (let i = c.loop-next.invariant in
    let t = tree_at (g.L.TreeSource.forest c.args.source.now) c.args.tree in
    let run = c.lent-run.result in
    let lent = g.L.RowLender.lent c.fetch.new.self in
    let is = lent_run (g.L.TreeSource.forest c.args.source.now) (g.L.TreeSource.forest c.loop-next.source) c.args.tree c.loop-next.next c.args.high run lent i.keeps c.lent-run.ensures (c.in_ok-fetch.ensures.found h) in
    let p = err_from_is_err_and c.from_residual-in_err-depth.result c.from_residual-in_err-depth.ensures.1 in
    rw (p.1, p.2)
    (nodes_refused c.args.limit c.in_err-depth.field-0.0 t c.loop-next.next c.args.high c.args.base run (string_bytes c.loop-next.text) _ c.loop-next.depth is (i.written (c.fetch.ensures.was_clean h)) c.in_err-depth.ensures))

pub loop-next-preserved : goal.loop-next-preserved
loop-next-preserved g c = record {
  keeps = c.fetch.ensures.keeps ∙ c.loop-next.invariant.keeps;
  was_clean = λ h. c.loop-next.invariant.was_clean (c.fetch.ensures.was_clean h);
  within = c.in_ok-depth.ensures.1;
  written = λ h.
      (let i = c.loop-next.invariant in
      let t = tree_at (g.L.TreeSource.forest c.args.source.now) c.args.tree in
      let run = c.lent-run.result in
      let lent = g.L.RowLender.lent c.fetch.new.self in
      let is = lent_run (g.L.TreeSource.forest c.args.source.now) (g.L.TreeSource.forest c.loop-next.source) c.args.tree c.loop-next.next c.args.high run lent i.keeps c.lent-run.ensures (c.in_ok-fetch.ensures.found h) in
      let fits : length run ≤ c.args.high + 1 - c.loop-next.next = (run_splits t c.loop-next.next c.args.high run is).fits in
      let n : c.saturating_add-next.result ≡ c.loop-next.next + length run = omega (arith, fits) in
      nodes_next t c.loop-next.next c.args.high c.args.base run c.saturating_add-next.result (string_bytes c.loop-next.text) (string_bytes c.append_run.new.text) _ c.loop-next.depth c.in_ok-depth.depth
      is n c.in_ok-depth.ensures.0 (i.written (c.fetch.ensures.was_clean h)));
  rows = λ h.
      (let i = c.loop-next.invariant in
      let t = tree_at (g.L.TreeSource.forest c.args.source.now) c.args.tree in
      let run = c.lent-run.result in
      let lent = g.L.RowLender.lent c.fetch.new.self in
      let is = lent_run (g.L.TreeSource.forest c.args.source.now) (g.L.TreeSource.forest c.loop-next.source) c.args.tree c.loop-next.next c.args.high run lent i.keeps c.lent-run.ensures (c.in_ok-fetch.ensures.found h) in
      let fits : length run ≤ c.args.high + 1 - c.loop-next.next = (run_splits t c.loop-next.next c.args.high run is).fits in
      let n : c.saturating_add-next.result ≡ c.loop-next.next + length run = omega (arith, fits) in
      let k = run_counted t c.loop-next.next c.args.high run lent (g.L.TreeSource.meter c.loop-next.source) (g.L.TreeSource.meter c.fetch.new.self) is c.lent-run.ensures c.in_ok-fetch.ensures.counts in
      let b = i.rows (c.fetch.ensures.was_clean h) in
      omega (arith, k, b, n));
  singles = ap (λ (m : Readings). m.singles) c.in_ok-fetch.ensures.counts ∙ c.loop-next.invariant.singles;
}

pub returns-then-is_empty-clause-appends : goal.returns-then-is_empty-clause-appends
returns-then-is_empty-clause-appends g c = λ h.
    (let i = c.loop-next.invariant in
    let t = tree_at (g.L.TreeSource.forest c.args.source.now) c.args.tree in
    let run = c.lent-run.result in
    let lent = g.L.RowLender.lent c.fetch.new.self in
    let is = lent_run (g.L.TreeSource.forest c.args.source.now) (g.L.TreeSource.forest c.loop-next.source) c.args.tree c.loop-next.next c.args.high run lent i.keeps c.lent-run.ensures (c.in_ok-fetch.ensures.found h) in
    let none = none_lent t c.loop-next.next c.args.high run is (c.is_empty.ensures.0 c.if-is_empty.true) in
    appended c.args.limit _ _ c.append_closing.result c.args.text.now c.loop-next.text c.append_closing.new.text
    (ap (λ (ps : List Leaf). string_bytes c.loop-next.text ++ text_from c.loop-next.depth (map (lowered c.args.base) ps)) (sym none) ∙ i.written (c.fetch.ensures.was_clean h)) c.append_closing.ensures)

pub returns-clause-appends : goal.returns-clause-appends
returns-clause-appends g c = λ h.
    (let t = tree_at (g.L.TreeSource.forest c.args.source.now) c.args.tree in
    let none = none_left t c.loop-next.next c.args.high (omega arith) in
    appended c.args.limit _ _ c.append_closing-2.result c.args.text.now c.loop-next.text c.append_closing-2.new.text
    (ap (λ (ps : List Leaf). string_bytes c.loop-next.text ++ text_from c.loop-next.depth (map (lowered c.args.base) ps)) (sym none) ∙ c.loop-next.invariant.written h) c.append_closing-2.ensures)

pub returns-in_err-depth-clause-rows : goal.returns-in_err-depth-clause-rows
returns-in_err-depth-clause-rows g c = λ h.
    (let i = c.loop-next.invariant in
    let t = tree_at (g.L.TreeSource.forest c.args.source.now) c.args.tree in
    let run = c.lent-run.result in
    let lent = g.L.RowLender.lent c.fetch.new.self in
    let is = lent_run (g.L.TreeSource.forest c.args.source.now) (g.L.TreeSource.forest c.loop-next.source) c.args.tree c.loop-next.next c.args.high run lent i.keeps c.lent-run.ensures (c.in_ok-fetch.ensures.found h) in
    let k = run_counted t c.loop-next.next c.args.high run lent (g.L.TreeSource.meter c.loop-next.source) (g.L.TreeSource.meter c.fetch.new.self) is c.lent-run.ensures c.in_ok-fetch.ensures.counts in
    let b = i.rows (c.fetch.ensures.was_clean h) in
    omega (arith, k, b))

pub returns-then-is_empty-clause-rows : goal.returns-then-is_empty-clause-rows
returns-then-is_empty-clause-rows g c = λ h.
    (let i = c.loop-next.invariant in
    let t = tree_at (g.L.TreeSource.forest c.args.source.now) c.args.tree in
    let run = c.lent-run.result in
    let lent = g.L.RowLender.lent c.fetch.new.self in
    let is = lent_run (g.L.TreeSource.forest c.args.source.now) (g.L.TreeSource.forest c.loop-next.source) c.args.tree c.loop-next.next c.args.high run lent i.keeps c.lent-run.ensures (c.in_ok-fetch.ensures.found h) in
    let k = run_counted t c.loop-next.next c.args.high run lent (g.L.TreeSource.meter c.loop-next.source) (g.L.TreeSource.meter c.fetch.new.self) is c.lent-run.ensures c.in_ok-fetch.ensures.counts in
    let b = i.rows (c.fetch.ensures.was_clean h) in
    omega (arith, k, b))
