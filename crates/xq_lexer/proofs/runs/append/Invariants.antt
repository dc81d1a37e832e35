use Rattle.std.proofs.Common.{◌≡◌, ◌++◌, string_bytes, take, encode_utf8_all}
use Rattle.xq_lexer.proofs.runs.append.Given as goal

abbrev pub invariant-loop-c : goal.invariant-loop-c
invariant-loop-c l =
    string_bytes l.text ≡ string_bytes l.fn.text ++ encode_utf8_all (take l.c-index l.chars)
