use Rattle.std.proofs.Common.{◌≡◌, ◌+◌, take, length}
use Rattle.xq_lexer.specs.Spelling.{bytes}
use Rattle.xq_lexer.proofs.runs.bytes.Given as goal

abbrev pub invariant-loop-c : goal.invariant-loop-c
invariant-loop-c l = l.bytes + l.c-index ≡ bytes (take l.c-index l.chars) + length l.chars
