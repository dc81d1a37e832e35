use Rattle.std.proofs.Common.{◌≡◌, length}
use Rattle.xq_atoms.specs.Atom.{atomic_of}
use Rattle.xq_meaning.specs.Operators.{with_signs}
use Rattle.xq_functions.proofs.arithmetic.with_signs.Given as goal

abbrev pub invariant-loop-sign : goal.invariant-loop-sign
invariant-loop-sign l = with_signs l.rest (atomic_of l.value) ≡ with_signs l.signs (atomic_of l.fn.number)

abbrev pub decreases-loop-sign : goal.decreases-loop-sign
decreases-loop-sign l = length l.rest
