use Rattle.std.proofs.Common.{◌≡◌, ℕ, take, length, sym, ap, ◌∙◌, arith}
use Rattle.std.proofs.lemmas.List.{get_or_read}
use Rattle.std.specs.List.{list_all}
use Rattle.xq_lexer.specs.private.Lexes.{test}
use Rattle.xq_lexer.proofs.RunLemmas.{span_at, span_all}
use Rattle.xq_lexer.proofs.runs.run.Goals as goal

pub returns-then-not-has : goal.returns-then-not-has
returns-then-not-has c =
    let cs = c.args.chars.now in
    rw (c.split_at.ensures.front, c.split_at.ensures.back)
    (span_at (test c.args.class) cs c.loop-length.length c.index-chars-length.result (omega arith) (get_or_read cs c.loop-length.length c.index-chars-length.result (omega arith) c.index-chars-length.is 0) c.loop-length.invariant (sym c.has.ensures ∙ c.if-not-has.true))

pub returns : goal.returns
returns c =
    let cs = c.args.chars.now in
    let end : c.loop-length.length ≡ length cs = omega arith in
    rw (c.split_at-2.ensures.front, c.split_at-2.ensures.back) (span_all (test c.args.class) cs (length cs) (omega arith) (ap (λ (n : ℕ). list_all (test c.args.class) (take n cs)) (sym end) ∙ c.loop-length.invariant))
