use Rattle.xq_lexer.specs.Lexeme.{lexemes}
use Rattle.xq_queries.proofs.Steps.{check_refused, handed_on, parse_refused}
use Rattle.xq_queries.proofs.reading.checked.Goals as goal

pub returns-in_err-query : goal.returns-in_err-query
returns-in_err-query c =
    rw (handed_on c.from_residual.result _ c.from_residual.ensures.1)
    (parse_refused (lexemes c.args.tokens.now) _ c.in_err-query.ensures.refused)

pub returns-in_err-check : goal.returns-in_err-check
returns-in_err-check c =
    rw (handed_on c.from_residual-in_err-check.result _ c.from_residual-in_err-check.ensures.1)
    (check_refused (lexemes c.args.tokens.now) c.in_ok-query.query _ c.in_ok-query.ensures.shallow
    c.in_ok-query.ensures.found c.in_err-check.ensures)
