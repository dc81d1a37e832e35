use Rattle.xq_lexer.proofs.NestingLemmas.{Counts}
use Rattle.xq_lexer.proofs.depth.nesting.Given as goal

abbrev pub invariant-loop-index : goal.invariant-loop-index
invariant-loop-index l = Counts l.saved l.open l.now l.greatest l.index l.tokens
