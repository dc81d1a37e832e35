use Rattle.std.proofs.Common.{◌≡◌, ◌+◌, ◌-◌, suc, drop, sym, ◌∙◌, ap, subst, arith}
use Rattle.xq_trees.specs.Rows.{row_at}
use Rattle.xq_trees.specs.private.Checks.{IsChecked, roots, is_run}
use Rattle.xq_trees.proofs.Checking.{checked_later}
use Rattle.xq_trees.proofs.Walks.{false_unless, run_fails, run_goes_on, run_within}
use Rattle.xq_trees.proofs.encodings.has_children.Goals as goal

pub returns-then-size-count : goal.returns-then-size-count
returns-then-size-count g c =
    let rs = g.R.TreeRows.listed c.args.rows.now in
    let p = row_at rs c.args.parent in
    false_unless _ (λ h. omega (arith, c.size-size.ensures, c.count.ensures, run_within p rs (suc c.args.parent) p.size c.requires.parent_in c.requires.checked h))

pub returns-then-not-is_child : goal.returns-then-not-is_child
returns-then-not-is_child g c =
    let rs = g.R.TreeRows.listed c.args.rows.now in
    let p = row_at rs c.args.parent in
    let stop = c.args.parent + 1 + c.size-size.result in
    let d : suc c.args.parent + p.size ≡ stop = omega (arith, c.size-size.ensures) in
    sym (ap (λ i. is_run p p.size (roots rs (suc c.args.parent) i)) d
    ∙ c.loop-at.invariant.same
    ∙ run_fails p rs c.loop-at.at stop c.loop-at-test.true (omega arith) c.loop-at.invariant.checked (sym c.is_child.ensures ∙ c.if-not-is_child.true))

pub loop-at-init : goal.loop-at-init
loop-at-init g c =
    let rs = g.R.TreeRows.listed c.args.rows.now in
    let p = row_at rs c.args.parent in
    let stop = c.args.parent + 1 + c.size-size.result in
    let next : suc c.args.parent ≡ c.args.parent + 1 = omega arith in
    let size : p.size ≡ stop - (c.args.parent + 1) = omega (arith, c.size-size.ensures) in
    record {
      within = omega arith;
      checked = subst (λ n. IsChecked (drop n rs)) next c.requires.checked;
      same =
          ap (λ n. is_run p n (roots rs (suc c.args.parent) stop)) size
          ∙ ap (λ n. is_run p (stop - (c.args.parent + 1)) (roots rs n stop)) next;
    }

pub loop-at-preserved : goal.loop-at-preserved
loop-at-preserved g c =
    let rs = g.R.TreeRows.listed c.args.rows.now in
    let p = row_at rs c.args.parent in
    let m = c.loop-at.at + (1 + c.size.result) in
    let stop = c.args.parent + 1 + c.size-size.result in
    let w = run_goes_on p rs c.loop-at.at stop m c.loop-at-test.true (omega arith) c.loop-at.invariant.checked (omega (arith, c.size.ensures)) (sym c.is_child.ensures ∙ c.if-not-is_child.false) in
    record {
      within = w.within;
      checked = checked_later _ c.loop-at.at m c.loop-at.invariant.checked (omega arith);
      same = c.loop-at.invariant.same ∙ w.same;
    }
