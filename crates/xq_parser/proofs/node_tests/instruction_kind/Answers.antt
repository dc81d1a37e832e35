use Rattle.xq_lexer.specs.Lexeme.{Lex, lexemes, symbol}
use Rattle.xq_lexer.specs.declared.tokens.Symbol.TheVariants as s
use Rattle.xq_expressions.specs.declared.operators.NodeTest.TheVariants as test
use Rattle.std.proofs.Common.{List, ℕ, Option}
use Rattle.xq_parser.specs.Look.{word}
use Rattle.xq_parser.specs.private.Reading as spec
use Rattle.xq_parser.proofs.Steps.{reads_after, fails_at_first, fails_after, handed_on}
use Rattle.xq_parser.proofs.node_tests.instruction_kind.Goals as goal

abbrev instruction : Lex
instruction = word "processing-instruction"

abbrev argument : spec.Parser (Option (List ℕ))
argument = spec.after (symbol s.OpenParenthesis) (spec.before (spec.maybe spec.begins_nc spec.nc) (symbol s.CloseParenthesis))

pub returns-in_err-rest : goal.returns-in_err-rest
unfolding spec.instruction_kind
returns-in_err-rest c = handed_on c.from_residual.result c.in_err-rest.field-0.0 _ c.from_residual.ensures.1
    (fails_at_first test.ProcessingInstruction instruction argument (lexemes c.args.tokens.now) c.in_err-rest.field-0.0 c.in_err-rest.ensures)

pub returns-in_err-name : goal.returns-in_err-name
unfolding spec.instruction_kind
returns-in_err-name c = handed_on c.from_residual-in_err-name.result c.in_err-name.field-0.0 _ c.from_residual-in_err-name.ensures.1
    (fails_after test.ProcessingInstruction instruction argument (lexemes c.args.tokens.now) (lexemes c.in_ok-rest.rest.now) c.in_err-name.field-0.0 c.in_ok-rest.ensures c.in_err-name.ensures)

pub returns : goal.returns
unfolding spec.instruction_kind
returns c = reads_after test.ProcessingInstruction instruction argument (lexemes c.args.tokens.now) (lexemes c.in_ok-rest.rest.now) (lexemes c.in_ok-name.rest.now) c.in_ok-name.name c.in_ok-rest.ensures c.in_ok-name.ensures
