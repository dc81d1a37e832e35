use Rattle.std.proofs.Common.{◌++◌, List, ℕ, encode_utf8, encode_utf8_all, string_bytes, take, sym, ap, ◌∙◌, append_assoc, arith}
use Rattle.std.proofs.lemmas.List.{get_or_read}
use Rattle.xq_lexer.proofs.RunLemmas.{encode_more}
use Rattle.xq_lexer.proofs.runs.append.Goals as goal

pub loop-c-preserved : goal.loop-c-preserved
loop-c-preserved c =
    let cs = c.args.chars.now in
    let begun = string_bytes c.args.text.now in
    let front = encode_utf8_all (take c.loop-c.c-index cs) in
    let e = encode_more cs c.loop-c.c-index c.c-item.result (omega arith) (get_or_read cs c.loop-c.c-index c.c-item.result (omega arith) c.c-item.is 0) in
    c.in_ok-push.ensures.bytes ∙ ap (λ (u : List ℕ). u ++ encode_utf8 c.c-item.result) c.loop-c.invariant
    ∙ append_assoc begun front (encode_utf8 c.c-item.result) ∙ ap (λ (u : List ℕ). begun ++ u) (sym e)
