use Rattle.std.proofs.Common.{Ok, refl, sym, ◌∙◌}
use Rattle.xq_lexer.specs.Lexeme.{Lex, lexemes}
use Rattle.xq_expressions.specs.declared.operators.AllowingEmpty.{AllowingEmpty}
use Rattle.xq_expressions.specs.declared.operators.AllowingEmpty.TheVariants as allowing
use Rattle.xq_parser.specs.Look.{word}
use Rattle.xq_parser.specs.private.Reading as spec
use Rattle.xq_parser.proofs.Choice.{gives_first, gives_second}
use Rattle.xq_parser.proofs.Steps.{goes_on, stops, handed_on}
use Rattle.xq_parser.proofs.flwor.allowing_words.Goals as goal

abbrev opening : Lex
opening = word "allowing"

abbrev written : spec.Parser AllowingEmpty
written = spec.after opening (spec.one_of spec.allowances)

abbrev left_out : spec.Parser AllowingEmpty
left_out = spec.pure allowing.No

pub returns-in_err-rest : goal.returns-in_err-rest
unfolding spec.allowing_words
returns-in_err-rest c =
    gives_first (spec.is opening) written left_out (lexemes c.args.tokens.now) c.from_residual.result (sym c.is_word.ensures ∙ c.if-is_word.true)
    (handed_on c.from_residual.result c.in_err-rest.field-0.0 _ c.from_residual.ensures.1
    (stops opening (spec.one_of spec.allowances) (lexemes c.args.tokens.now) c.in_err-rest.field-0.0 c.in_err-rest.ensures))

pub returns-in_ok-rest : goal.returns-in_ok-rest
unfolding spec.allowing_words
returns-in_ok-rest c =
    gives_first (spec.is opening) written left_out (lexemes c.args.tokens.now) c.one_of.result (sym c.is_word.ensures ∙ c.if-is_word.true)
    (goes_on opening (spec.one_of spec.allowances) (lexemes c.args.tokens.now) (lexemes c.in_ok-rest.rest.now) c.one_of.result c.in_ok-rest.ensures c.one_of.ensures)

pub returns-else-is_word : goal.returns-else-is_word
unfolding spec.allowing_words
returns-else-is_word c =
    gives_second (spec.is opening) written left_out (lexemes c.args.tokens.now) (Ok (allowing.No, c.args.tokens)) (sym c.is_word.ensures ∙ c.if-is_word.false) refl
