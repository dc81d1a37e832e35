use Rattle.std.proofs.Common.{ℕ, ◌+◌, List, Option, Some, None, Ok, subst, arith}
use Rattle.std.proofs.lemmas.Result.{err_from_is_err_and}
use denote.Ref.{Bor}
use Rattle.xq_lexer.specs.declared.tokens.Token.{Token}
use Rattle.xq_lexer.specs.private.Lexes.{Nexts}
use Rattle.xq_lexer.proofs.StepLemmas.{lexed_more, lexed_all, lexed_error}
use Rattle.xq_lexer.specs.Lexeme.{lex_of}
use Rattle.xq_lexer.proofs.Cuts.{next_suffix, spelled_next}
use Rattle.xq_lexer.proofs.lexing.tokens.Goals as goal

pub next-requires-clause-short : goal.next-requires-clause-short
next-requires-clause-short c = let r = c.loop-tokens.invariant.lexed.room in omega (arith, r, c.requires.short)

pub passed-place-requires-clause-short : goal.passed-place-requires-clause-short
passed-place-requires-clause-short c = let r = c.loop-tokens.invariant.lexed.room in omega (arith, r, c.requires.short)

pub passed-place-requires-clause-suffix : goal.passed-place-requires-clause-suffix
passed-place-requires-clause-suffix c =
    let l = c.loop-tokens in
    let n : Nexts l.rest.now (Ok (Some (c.in-Some.token, c.in-Some.after))) = subst (λ (o : Option (Token × Bor (List ℕ))). Nexts l.rest.now (Ok o)) c.in-Some.is c.in_ok-token.ensures in
    next_suffix l.rest.now (lex_of c.in-Some.token) c.in-Some.after.now n.0

pub loop-tokens-preserved : goal.loop-tokens-preserved
loop-tokens-preserved c =
    let l = c.loop-tokens in
    let n : Nexts l.rest.now (Ok (Some (c.in-Some.token, c.in-Some.after))) = subst (λ (o : Option (Token × Bor (List ℕ))). Nexts l.rest.now (Ok o)) c.in-Some.is c.in_ok-token.ensures in
    record {
      lexed = rw c.in_ok-push.ensures.items (lexed_more c.args.chars.now l.tokens.items l.place l.rest.now c.in-Some.token c.in-Some.after.now (l.place + c.passed-place.result) l.invariant.lexed n.0 (omega (arith, c.passed-place.ensures)));
      spelled = spelled_next c.args.text.now l.place (l.place + c.passed-place.result) l.rest.now (lex_of c.in-Some.token) c.in-Some.after.now l.invariant.spelled n.0 (omega (arith, c.passed-place.ensures));
    }

pub loop-tokens-smaller : goal.loop-tokens-smaller
loop-tokens-smaller c =
    let l = c.loop-tokens in
    let n : Nexts l.rest.now (Ok (Some (c.in-Some.token, c.in-Some.after))) = subst (λ (o : Option (Token × Bor (List ℕ))). Nexts l.rest.now (Ok o)) c.in-Some.is c.in_ok-token.ensures in
    n.1

pub returns : goal.returns
returns c =
    let l = c.loop-tokens in
    let n : Nexts l.rest.now (Ok None) = subst (λ (o : Option (Token × Bor (List ℕ))). Nexts l.rest.now (Ok o)) c.in_default.is c.in_ok-token.ensures in
    lexed_all c.args.chars.now l.tokens.items l.place l.rest.now l.invariant.lexed n

pub returns-in_err-token : goal.returns-in_err-token
returns-in_err-token c =
    let l = c.loop-tokens in
    let p = err_from_is_err_and c.from_residual-in_err-token.result c.from_residual-in_err-token.ensures.1 in
    rw (p.1, p.2) (lexed_error c.args.chars.now l.tokens.items l.place l.rest.now c.in_err-token.field-0.0 l.invariant.lexed c.in_err-token.ensures)
