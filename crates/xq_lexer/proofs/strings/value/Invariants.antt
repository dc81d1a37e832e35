use Rattle.std.proofs.Common.{◌≡◌, min, take}
use Rattle.xq_lexer.specs.Literals.{digits_value}
use Rattle.xq_lexer.proofs.strings.value.Given as goal

abbrev pub invariant-loop-c : goal.invariant-loop-c
invariant-loop-c l = l.value ≡ min 0x110000 (digits_value l.base (take l.c-index l.digits))
