use Rattle.std.proofs.Common.{◌+◌, arith}
use Rattle.std.proofs.lemmas.List.{get_or_read}
use Rattle.std.proofs.lemmas.Str.{len_utf8_bounds}
use Rattle.xq_lexer.proofs.RunLemmas.{bytes_more}
use Rattle.xq_lexer.proofs.Cuts.{bytes_so_far, narrow}
use Rattle.xq_lexer.proofs.runs.bytes.Goals as goal
use Rattle.xq_lexer.proofs.runs.bytes.Goals.{then-c-ge128, else-c-ge128}

pub loop-c-preserved : goal.loop-c-preserved
loop-c-preserved c =
    let cs = c.args.chars.now in
    let x = c.c-item.result in
    let e = bytes_more cs c.loop-c.c-index x (omega arith) (get_or_read cs c.loop-c.c-index x (omega arith) c.c-item.is 0) in
    elim c.if-c-ge128.branch [
      | then-c-ge128 w ↦ let b = len_utf8_bounds x in omega (arith, e, b, c.loop-c.invariant, w.len_utf8.ensures.len)
      | else-c-ge128 w ↦ let one = narrow x (omega arith) in omega (arith, e, one, c.loop-c.invariant)
    ]

pub overflow_add-bytes : goal.overflow_add-bytes
overflow_add-bytes c =
    let cs = c.args.chars.now in
    let x = c.c-item.result in
    let e = bytes_more cs c.loop-c.c-index x (omega arith) (get_or_read cs c.loop-c.c-index x (omega arith) c.c-item.is 0) in
    let w = bytes_so_far cs (c.loop-c.c-index + 1) (omega arith) in
    let b = len_utf8_bounds x in
    omega (arith, e, w, b, c.loop-c.invariant, c.requires, c.len_utf8.ensures.len)
