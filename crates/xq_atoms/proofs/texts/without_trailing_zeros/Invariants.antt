use Rattle.std.proofs.Common.{◌≡◌, length}
use Rattle.xq_atoms.specs.Literal as Literal
use Rattle.xq_atoms.proofs.texts.without_trailing_zeros.Given as goal

abbrev pub invariant-loop-last : goal.invariant-loop-last
invariant-loop-last l = Literal.without_trailing_zeros l.rest ≡ Literal.without_trailing_zeros l.digits

abbrev pub decreases-loop-last : goal.decreases-loop-last
decreases-loop-last l = length l.rest
