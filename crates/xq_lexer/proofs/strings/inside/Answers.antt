use Rattle.std.proofs.Common.{sym, ◌∙◌, arith}
use Rattle.std.proofs.lemmas.List.{take_rest, get_or_read}
use Rattle.xq_lexer.proofs.StringLemmas.{inside_ampersand}
use Rattle.xq_lexer.proofs.strings.inside.Goals as goal

pub returns-then-c-eq38 : goal.returns-then-c-eq38
returns-then-c-eq38 c =
    let cs = c.args.chars.now in
    let first = sym (get_or_read cs 0 c.c-item.result (omega arith) c.c-item.is 0) ∙ c.if-c-eq38.true in
    let e = inside_ampersand c.args.quote cs c.in-len1-up.len_at_least first (λ e. c.if-c-quote.false (c.if-c-eq38.true ∙ e)) in
    rw e (rw (take_rest cs 1) at c.after_ampersand.ensures)
