use Rattle.std.proofs.Common.{◌≡◌, drop}
use Rattle.xq_atoms.specs.Atom.{atomic_of}
use Rattle.xq_meaning.specs.Operators.{some_with}
use Rattle.xq_functions.specs.Answers.{atomics}
use Rattle.xq_functions.proofs.comparisons.some_with.Given as goal

abbrev pub invariant-loop-atom : goal.invariant-loop-atom
invariant-loop-atom l = some_with l.op (atomic_of l.left) (atomics (drop l.atom-index l.right)) ≡ some_with l.op (atomic_of l.left) (atomics l.right)
