use Rattle.xq_lexer.specs.Lexeme.{lexemes}
use Rattle.xq_parser.proofs.Top.{derives_one}
use Rattle.xq_parser.proofs.laws.derives_at_most_one.Goals as goal

pub returns : goal.returns
returns c = derives_one (lexemes c.args.tokens.now)
