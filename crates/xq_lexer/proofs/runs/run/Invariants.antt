use Rattle.std.proofs.Common.{◌≡◌, take, true}
use Rattle.std.specs.List.{list_all}
use Rattle.xq_lexer.specs.private.Lexes.{test}
use Rattle.xq_lexer.proofs.runs.run.Given as goal

abbrev pub invariant-loop-length : goal.invariant-loop-length
invariant-loop-length l = list_all (test l.class) (take l.length l.chars) ≡ true
