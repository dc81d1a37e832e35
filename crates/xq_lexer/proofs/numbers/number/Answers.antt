use Rattle.std.proofs.Common.{ℕ, List, sym, ap, ap₂, ◌∙◌, subst, IsTrue, arith, length, ◌-◌, encode_utf8_all}
use Rattle.std.proofs.lemmas.Result.{err_from_is_err_and}
use Rattle.std.specs.Bool.{OnTrue, OnFalse}
use Rattle.xq_lexer.specs.private.Lexes.{is_decimal, valued_lex}
use Rattle.xq_lexer.proofs.Cuts.{front_at}
use Rattle.xq_lexer.proofs.NumberLemmas.{cut, stands_for, refused, whole_form, number_form, number_encoded, with_rest, refused_with}
use Rattle.xq_lexer.proofs.RunLemmas.{bytes_within}
use Rattle.xq_atoms.specs.Text.{is_whole}
use Rattle.xq_atoms.specs.Literal.{is_number}
use Rattle.xq_lexer.proofs.numbers.number.Goals as goal

pub returns-in-Some : goal.returns-in-Some
returns-in-Some c =
    let k = cut c.args.chars.now c.digits-has_point.result.0 c.digits-has_point.result.1.now c.requires.begun c.digits-has_point.ensures in
    rw k.read (refused k.written c.digits-has_point.result.1.now c.in-Some.code (sym c.in-Some.ensures))

pub slice_bounds-literal-count : goal.slice_bounds-literal-count
slice_bounds-literal-count c =
    let k = cut c.args.chars.now c.digits-has_point.result.0 c.digits-has_point.result.1.now c.requires.begun c.digits-has_point.ensures in
    k.room

pub read-requires-clause-short : goal.read-requires-clause-short
read-requires-clause-short c =
    let w = bytes_within c.args.chars.now (length c.args.chars.now - length c.digits-has_point.result.1.now) in
    omega (arith, w, c.requires.short)

pub read-requires-clause-spelled : goal.read-requires-clause-spelled
read-requires-clause-spelled c = front_at c.args.written.now c.args.place c.args.chars.now _ c.requires.spelled

pub read-requires-clause-whole : goal.read-requires-clause-whole
read-requires-clause-whole c =
    let k = cut c.args.chars.now c.digits-has_point.result.0 c.digits-has_point.result.1.now c.requires.begun c.digits-has_point.ensures in
    rw k.point (subst (λ (t : List ℕ). OnFalse (is_decimal k.written) (IsTrue (is_whole t)))
    (sym (ap encode_utf8_all k.literal ∙ number_encoded k.written k.is)) (whole_form k.written k.is))

pub read-requires-clause-number : goal.read-requires-clause-number
read-requires-clause-number c =
    let k = cut c.args.chars.now c.digits-has_point.result.0 c.digits-has_point.result.1.now c.requires.begun c.digits-has_point.ensures in
    rw k.point (subst (λ (t : List ℕ). OnTrue (is_decimal k.written) (IsTrue (is_number t)))
    (sym (ap encode_utf8_all k.literal ∙ number_encoded k.written k.is)) (number_form k.written k.is))

pub returns-in_err-read : goal.returns-in_err-read
returns-in_err-read c =
    let rest = c.digits-has_point.result.1.now in
    let k = cut c.args.chars.now c.digits-has_point.result.0 c.digits-has_point.result.1.now c.requires.begun c.digits-has_point.ensures in
    let t = ap encode_utf8_all k.literal ∙ number_encoded k.written k.is in
    let p = err_from_is_err_and c.from_residual.result c.from_residual.ensures.1 in
    rw (p.1, p.2, k.read) (refused_with k.written rest _ _ _ (sym c.in_default.ensures) k.point t c.in_err-read.ensures)

pub returns : goal.returns
returns c =
    let rest = c.digits-has_point.result.1.now in
    let k = cut c.args.chars.now c.digits-has_point.result.0 c.digits-has_point.result.1.now c.requires.begun c.digits-has_point.ensures in
    let t = ap encode_utf8_all k.literal ∙ number_encoded k.written k.is in
    rw k.read (stands_for k.written rest (sym c.in_default.ensures) ∙ ap (with_rest rest) (ap₂ valued_lex (sym k.point) (sym t) ∙ c.in_ok-read.ensures))
