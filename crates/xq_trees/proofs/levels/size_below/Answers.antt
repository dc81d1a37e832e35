use Rattle.std.proofs.Common.{rules, arith, ◌≡◌, ◌+◌, ◌<◌, ◌≤◌, length, drop, ap}
use Rattle.xq_trees.specs.Rows.{row_at}
use Rattle.xq_trees.specs.Levels.{count_deeper}
use Rattle.xq_trees.proofs.SizedRows.{jump_next, sized_after}
use Rattle.xq_trees.proofs.levels.size_below.Goals as goal

pub overflow_add-next-in-loop-next-2 : goal.overflow_add-next-in-loop-next-2
overflow_add-next-in-loop-next-2 g c =
    let rs = g.R.TreeRows.listed c.args.rows.now in
    let next = c.loop-next.next in
    let inside : next < length rs = omega (arith, c.loop-next-test.true, c.count-count.ensures) in
    let h = sized_after (c.args.at + 1) next rs (omega (arith, c.loop-next.invariant.after)) c.requires.after in
    let j = jump_next c.level-level.result next rs inside h (omega (arith, c.if-level.false, c.level.ensures)) in
    let fits : next + (1 + c.size.result) ≤ c.count-count.result = omega (arith, j.1, c.size.ensures, c.count-count.ensures) in
    search (rules, fits)

pub loop-next-preserved : goal.loop-next-preserved
loop-next-preserved g c =
    let rs = g.R.TreeRows.listed c.args.rows.now in
    let next = c.loop-next.next in
    let low = c.level-level.result in
    let inside : next < length rs = omega (arith, c.loop-next-test.true, c.count-count.ensures) in
    let h = sized_after (c.args.at + 1) next rs (omega (arith, c.loop-next.invariant.after)) c.requires.after in
    let j = jump_next low next rs inside h (omega (arith, c.if-level.false, c.level.ensures)) in
    let size : c.size.result ≡ (row_at rs next).size = c.size.ensures in
    let same : count_deeper low (drop (next + (1 + c.size.result)) rs) ≡ count_deeper low (drop (next + (1 + (row_at rs next).size)) rs) = ap (λ n. count_deeper low (drop (next + (1 + n)) rs)) size in
    record {
      after = omega (arith, c.loop-next.invariant.after);
      within = omega (arith, j.1, size);
      same = omega (arith, j.0, same, size, c.loop-next.invariant.same, c.loop-next.invariant.after);
    }
