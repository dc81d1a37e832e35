use Rattle.std.proofs.Common.{subst}
use Rattle.std.specs.Str.{chars}
use Rattle.xq_lexer.specs.Lexeme.{lexemes}
use Rattle.xq_queries.proofs.Steps.{parses_by}
use Rattle.xq_queries.specs.private.Plans.{Checks}
use Rattle.xq_queries.proofs.reading.parsed.Goals as goal

pub returns : goal.returns
returns c =
    parses_by (chars c.args.text.now) c.in_ok-tokens.tokens.items c.checked.result c.in_ok-tokens.ensures.spelled
    (subst (λ ts. Checks (lexemes ts) c.checked.result) c.deref.ensures.value c.checked.ensures)
