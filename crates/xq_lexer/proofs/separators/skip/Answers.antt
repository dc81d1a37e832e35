use Rattle.std.proofs.Common.{sym, ◌∙◌, arith}
use Rattle.xq_lexer.proofs.SeparatorLemmas.{led}
use Rattle.xq_lexer.proofs.separators.skip.Goals as goal

pub loop-deeper-preserved : goal.loop-deeper-preserved
loop-deeper-preserved c =
    let l = led c.loop-deeper.depth c.loop-deeper.rest.now c.in-Some.deeper c.in-Some.after.now (sym c.in-Some.ensures) in
    record { same = c.loop-deeper.invariant.same ∙ l.0; room = omega (arith, l.2, c.loop-deeper.invariant.room) }
