use Rattle.std.proofs.Common.{◌≡◌, ◌∙◌, ◌++◌, ◌+◌, ◌-◌, ◌≤◌, length, ap, sym, arith, map}
use Rattle.std.proofs.lemmas.List.{append-nil}
use Rattle.xq_trees.specs.Levels.{flat}
use Rattle.xq_sources.specs.Sources.{tree_at}
use Rattle.xq_build.specs.private.Leaves.{lowered, leaves_between}
use Rattle.xq_build.proofs.Subtrees.{none_left, none_lent, lent_run, run_next, run_splits, moved_added}
use Rattle.xq_build.proofs.node_copies.append_between.Goals as goal

pub loop-next-preserved : goal.loop-next-preserved
loop-next-preserved g c =
    let i = c.loop-next.invariant in
    let trees = g.L.TreeSource.forest c.args.source.now in
    let t = tree_at trees c.args.tree in
    let run = c.lent-run.result in
    record {
      keeps = c.fetch.ensures.keeps ∙ i.keeps;
      was_clean = λ h. i.was_clean (c.fetch.ensures.was_clean h);
      copied = λ h.
          (let is = lent_run trees (g.L.TreeSource.forest c.loop-next.source) c.args.tree c.loop-next.next c.args.high run (g.L.RowLender.lent c.fetch.new.self) i.keeps c.lent-run.ensures (c.in_ok-fetch.ensures.found h) in
          let fits : length run ≤ c.args.high + 1 - c.loop-next.next = (run_splits t c.loop-next.next c.args.high run is).fits in
          let n : c.saturating_add-next.result ≡ c.loop-next.next + length run = omega (arith, fits) in
          let added = moved_added c.args.base c.loop-next.copies.rows c.append_to.new.rows.rows run c.in_ok-append_to.ensures in
          run_next t c.loop-next.next c.args.high c.args.base run c.saturating_add-next.result (map flat c.loop-next.copies.rows) (map flat c.append_to.new.rows.rows)
          (map flat c.args.copies.now.rows ++ map (lowered c.args.base) (leaves_between t c.args.low c.args.high)) is n added (i.copied (c.fetch.ensures.was_clean h)));
    }

pub returns-then-is_empty-clause-copied : goal.returns-then-is_empty-clause-copied
returns-then-is_empty-clause-copied g c = λ h.
    (let i = c.loop-next.invariant in
    let trees = g.L.TreeSource.forest c.args.source.now in
    let run = c.lent-run.result in
    let is = lent_run trees (g.L.TreeSource.forest c.loop-next.source) c.args.tree c.loop-next.next c.args.high run (g.L.RowLender.lent c.fetch.new.self) i.keeps c.lent-run.ensures (c.in_ok-fetch.ensures.found h) in
    let none = none_lent (tree_at trees c.args.tree) c.loop-next.next c.args.high run is (c.is_empty.ensures.0 c.if-is_empty.true) in
    sym (append-nil (map flat c.loop-next.copies.rows))
    ∙ ap (λ l. map flat c.loop-next.copies.rows ++ map (lowered c.args.base) l) (sym none)
    ∙ i.copied (c.fetch.ensures.was_clean h))

pub returns-clause-copied : goal.returns-clause-copied
returns-clause-copied g c = λ h.
    (let t = tree_at (g.L.TreeSource.forest c.args.source.now) c.args.tree in
    sym (append-nil (map flat c.loop-next.copies.rows))
    ∙ ap (λ l. map flat c.loop-next.copies.rows ++ map (lowered c.args.base) l) (sym (none_left t c.loop-next.next c.args.high (omega arith)))
    ∙ c.loop-next.invariant.copied h)
