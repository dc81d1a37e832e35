use Rattle.std.proofs.Common.{◌≡◌, take, length, vec_capacity}
use Rattle.xq_lexer.proofs.lexing.narrow_chars.Given as goal

abbrev pub invariant-loop-byte : goal.invariant-loop-byte
invariant-loop-byte l = record { items : l.chars.items ≡ take l.byte-index l.written; room : vec_capacity l.chars ≡ length l.written }
