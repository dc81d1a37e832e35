use Rattle.std.proofs.Common.{◌≡◌, drop}
use Rattle.xq_lexer.specs.Reading.{strip}
use Rattle.xq_lexer.proofs.strings.strip.Given as goal

abbrev pub invariant-loop-expected : goal.invariant-loop-expected
invariant-loop-expected l = strip l.word l.chars ≡ strip (drop l.expected-index l.word) l.rest
