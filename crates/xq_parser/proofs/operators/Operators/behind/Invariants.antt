use Rattle.std.proofs.Common.{◌≡◌, Some}
use Rattle.xq_lexer.specs.Lexeme.{lexemes}
use Rattle.xq_parser.specs.private.Behind.{up_to}
use Rattle.xq_parser.specs.private.Reading.{single, next_level}
use Rattle.xq_parser.proofs.operators.Operators.behind.Given as goal

-- what was read at the levels so far, and the level of the next token
abbrev pub invariant-loop-tighter : goal.invariant-loop-tighter
invariant-loop-tighter g l = record {
  read : up_to (single l.self.grammar.now.depth) l.tighter l.fn.operand (lexemes l.tokens) ≡ Some (l.found, lexemes l.rest);
  next : l.next ≡ next_level (lexemes l.rest);
}
