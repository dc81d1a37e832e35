use Rattle.std.proofs.Common.{length}
use Rattle.xq_lexer.specs.private.Lexes.{SpelledAt}
use Rattle.xq_lexer.proofs.StepLemmas.{Lexed}
use Rattle.xq_lexer.proofs.lexing.tokens.Given as goal

abbrev pub invariant-loop-tokens : goal.invariant-loop-tokens
invariant-loop-tokens l = record { lexed : Lexed l.chars l.tokens.items l.place l.rest; spelled : SpelledAt l.text l.place l.rest }

abbrev pub decreases-loop-tokens : goal.decreases-loop-tokens
decreases-loop-tokens l = length l.rest
