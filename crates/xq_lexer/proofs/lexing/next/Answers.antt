use Rattle.std.proofs.Common.{arith, inl}
use Rattle.std.proofs.lemmas.Result.{err_from_is_err_and}
use Rattle.xq_lexer.specs.Lexeme.{lex_of}
use Rattle.xq_lexer.proofs.SeparatorLemmas.{skip_suffix}
use Rattle.xq_lexer.proofs.StepLemmas.{was_read, next_is, step_fault, empty_left, some_left}
use Rattle.xq_lexer.proofs.Cuts.{spelled_past}
use Rattle.xq_lexer.proofs.lexing.next.Goals as goal

pub returns-in_err-begun : goal.returns-in_err-begun
returns-in_err-begun c =
    let p = err_from_is_err_and c.from_residual.result c.from_residual.ensures.1 in
    rw (p.1, p.2) (inl c.in_err-begun.ensures)

pub returns-then-is_empty : goal.returns-then-is_empty
returns-then-is_empty c = empty_left _ c.in_ok-begun.begun.now c.in_ok-begun.ensures c.if-is_empty.ensures

pub passed-requires-clause-suffix : goal.passed-requires-clause-suffix
passed-requires-clause-suffix c =
    let s = skip_suffix c.args.chars.now c.in_ok-begun.begun.now c.in_ok-begun.ensures in
    (s.front, s.whole)

pub token-requires-clause-spelled : goal.token-requires-clause-spelled
token-requires-clause-spelled c =
    let s = skip_suffix c.args.chars.now c.in_ok-begun.begun.now c.in_ok-begun.ensures in
    spelled_past c.args.text.now c.args.place _ c.args.chars.now s.front c.in_ok-begun.begun.now c.requires.spelled s.whole (omega (arith, c.passed.ensures))

pub returns : goal.returns
returns c =
    let z = c.in_ok-begun.begun.now in
    let some = some_left z c.if-is_empty.ensures in
    let r = was_read z (lex_of c.in_ok-token.token) c.in_ok-token.rest.now some c.in_ok-token.ensures in
    next_is c.args.chars.now z (lex_of c.in_ok-token.token) c.in_ok-token.rest.now c.in_ok-begun.ensures r

pub returns-in_err-token : goal.returns-in_err-token
returns-in_err-token c =
    let some = some_left c.in_ok-begun.begun.now c.if-is_empty.ensures in
    let p = err_from_is_err_and c.from_residual-in_err-token.result c.from_residual-in_err-token.ensures.1 in
    rw (p.1, p.2) (step_fault c.args.chars.now c.in_ok-begun.begun.now c.in_err-token.field-0.0 c.in_ok-begun.ensures some c.in_err-token.ensures)
