use Rattle.std.proofs.Common.{sym}
use Rattle.std.proofs.lemmas.Result.{err_from_is_err_and}
use Rattle.xq_lexer.specs.Lexeme.{lexemes}
use Rattle.xq_parser.specs.private.Behind.{up_to}
use Rattle.xq_parser.specs.private.Reading.{single, unary}
use Rattle.xq_parser.proofs.Behind.{levels_behind, ended, not_first}
use Rattle.xq_parser.proofs.operators.Operators.read.Goals as goal

pub returns-then-ends_expression : goal.returns-then-ends_expression
returns-then-ends_expression g c =
    let s = single c.args.self.now.grammar.now.depth in
    let n = c.args.self.now.level in
    rw (levels_behind s (lexemes c.args.tokens.now) n c.requires.bound, c.in_ok-operand.ensures) (ended s c.in_ok-operand.operand (lexemes c.in_ok-operand.rest.now) (sym c.if-ends_expression.ensures) n c.requires.bound)

pub returns : goal.returns
returns g c =
    let s = single c.args.self.now.grammar.now.depth in
    rw (levels_behind s (lexemes c.args.tokens.now) c.args.self.now.level c.requires.bound, c.in_ok-operand.ensures) c.behind.ensures

pub returns-in_err-operand : goal.returns-in_err-operand
returns-in_err-operand g c =
    let s = single c.args.self.now.grammar.now.depth in
    let ts = lexemes c.args.tokens.now in
    let n = c.args.self.now.level in
    let p = err_from_is_err_and c.from_residual.result c.from_residual.ensures.1 in
    rw (p.1, p.2, levels_behind s ts n c.requires.bound) (not_first _ (unary s ts) (up_to s n) c.in_err-operand.ensures)
