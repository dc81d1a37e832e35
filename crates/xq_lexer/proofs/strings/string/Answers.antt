use Rattle.std.proofs.Common.{ℕ, Option, Ok, [], ap, ◌∙◌, arith}
use Rattle.std.proofs.lemmas.Result.{err_from_is_err_and}
use Rattle.xq_lexer.specs.Literals.{is_plain}
use Rattle.xq_lexer.proofs.Cuts.{begins_at, past_quote, quoted_short, run_short}
use Rattle.xq_lexer.proofs.StringLemmas.{none_read, piece_more, piece_shorter_than, pieces_closed, pieces_wrong, plain_more, plain_shorter}
use Rattle.xq_lexer.proofs.strings.string.Goals as goal

pub cut-requires-clause-short : goal.cut-requires-clause-short
cut-requires-clause-short c =
    let s = run_short (is_plain c.args.quote) c.args.chars.now c.run.result.0.now c.run.result.1.now c.run.ensures in
    let q = quoted_short c.args.quote c.args.chars.now in
    omega (arith, s, q, c.requires.short)

pub cut-requires-clause-spelled : goal.cut-requires-clause-spelled
cut-requires-clause-spelled c = begins_at (is_plain c.args.quote) c.args.written.now _ c.args.chars.now c.run.result.0.now c.run.result.1.now c.run.ensures (past_quote c.args.written.now c.args.place c.args.quote c.args.chars.now c.requires.quote c.requires.spelled)

pub pieces-init : goal.pieces-init
pieces-init c =
    rw c.in_ok-text.ensures (plain_more c.args.quote c.args.chars.now c.args.chars.now [] c.run.result.0.now c.run.result.1.now (none_read c.args.quote c.args.chars.now) c.run.ensures)

pub returns-in_err-c : goal.returns-in_err-c
returns-in_err-c c =
    let p = err_from_is_err_and c.from_residual-in_err-c.result c.from_residual-in_err-c.ensures.1 in
    rw (p.1, p.2) (pieces_wrong c.args.quote c.args.chars.now c.pieces.rest.now _ c.in_err-c.field-0.0 c.requires.quote c.pieces.invariant c.in_err-c.ensures)

pub pieces-smaller : goal.pieces-smaller
pieces-smaller c =
    let run = c.run-in-Some-default.result in
    let after = c.in_ok-c.field-0.1.now in
    let less = piece_shorter_than c.args.quote c.pieces.rest.now c.in-Some-default.c after (c.in_ok-c.ensures ∙ ap (λ (o : Option ℕ). Ok (o, after)) c.in-Some-default.is-0) in
    let most = plain_shorter c.args.quote after run.0.now run.1.now c.run-in-Some-default.ensures in
    omega (arith, less, most)

pub pieces-preserved : goal.pieces-preserved
pieces-preserved c =
    let run = c.run-in-Some-default.result in
    let after = c.in_ok-c.field-0.1.now in
    let read = piece_more c.args.quote c.args.chars.now c.pieces.rest.now _ c.in-Some-default.c after c.pieces.invariant (c.in_ok-c.ensures ∙ ap (λ (o : Option ℕ). Ok (o, after)) c.in-Some-default.is-0) in
    rw (c.in_ok-append-in-Some-default.ensures, c.in_ok-push-in-Some-default.ensures.bytes) (plain_more c.args.quote c.args.chars.now after _ run.0.now run.1.now read c.run-in-Some-default.ensures)

pub returns-in-None-default : goal.returns-in-None-default
returns-in-None-default c =
    pieces_closed c.args.quote c.args.chars.now c.pieces.rest.now _ c.in_ok-c.field-0.1.now c.requires.quote c.pieces.invariant (c.in_ok-c.ensures ∙ ap (λ (o : Option ℕ). Ok (o, c.in_ok-c.field-0.1.now)) c.in-None-default.is-0)
