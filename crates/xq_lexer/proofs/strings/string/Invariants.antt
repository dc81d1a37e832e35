use Rattle.std.proofs.Common.{length, string_bytes}
use Rattle.xq_lexer.proofs.StringLemmas.{PiecesRead}
use Rattle.xq_lexer.proofs.strings.string.Given as goal

abbrev pub invariant-pieces : goal.invariant-pieces
invariant-pieces l = PiecesRead l.quote l.chars l.rest (string_bytes l.text)

abbrev pub decreases-pieces : goal.decreases-pieces
decreases-pieces l = length l.rest
