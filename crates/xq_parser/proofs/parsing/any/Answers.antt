use Rattle.std.proofs.Common.{sym}
use Rattle.xq_lexer.specs.Lexeme.{lexemes}
use Rattle.xq_parser.specs.private.Reading.{single, level}
use Rattle.xq_parser.proofs.Alone.{alone}
use Rattle.xq_parser.proofs.Behind.{any_made}
use Rattle.xq_parser.proofs.parsing.any.Goals as goal

pub returns-then-is_alone : goal.returns-then-is_alone
returns-then-is_alone g c =
    let is = alone (single c.args.grammar.depth) (lexemes c.args.tokens.now) (sym c.if-is_alone.ensures) in
    rw is c.primary.ensures

pub returns-then-begins_constructor : goal.returns-then-begins_constructor
unfolding level
returns-then-begins_constructor g c =
    let is = any_made (single c.args.grammar.depth) (lexemes c.args.tokens.now) (sym c.if-begins_constructor.ensures) in
    rw is c.constructed.ensures
