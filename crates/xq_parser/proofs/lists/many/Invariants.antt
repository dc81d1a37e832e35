use Rattle.std.proofs.Common.{length}
use Rattle.xq_lexer.specs.Lexeme.{lexemes}
use Rattle.xq_parser.proofs.Loops.{Kept}
use Rattle.xq_parser.proofs.lists.many.Given as goal

abbrev pub invariant-loop-turn : goal.invariant-loop-turn
invariant-loop-turn g l = Kept (g.R.Repeated.test l.phrase) (g.R.Repeated.reader l.phrase) l.found (length l.tokens) l._turn (lexemes l.rest) (lexemes l.tokens)
