use Rattle.std.proofs.Common.{◌≡◌, ◌+◌, ◌<◌, length, subst, arith}
use Rattle.xq_sources.specs.Lent.{placed_lent}
use Rattle.xq_axes.proofs.Runs.{row_in_turn}
use Rattle.xq_axes.proofs.walks.visit_all.Goals as goal

pub loop-passed-preserved : goal.loop-passed-preserved
loop-passed-preserved g c = λ start t s n high h w r. (
    let inv = c.loop-passed.invariant start t s n high h w r in
    let i = c.loop-passed.passed in
    let within : i < length c.args.rows.now = omega (arith, c.loop-passed-test.true, c.len-count.ensures) in
    let x = row_in_turn t s n c.args.rows.now i (placed_lent c.row-row.result) h within c.row-row.ensures in
    let v = c.in_ok-over.ensures start t s (n + i) x inv.1 in
    let to = v.0 in
    let from = x.from in
    let e : n + i + 1 + c.in_ok-over.over ≡ n + c.saturating_add-passed.result = omega (arith, to, high, from) in
    (omega (arith, to, e), subst (λ k. g.V.Visitor.has_read start c.visit.new.self t s k) e v.1))
