use Rattle.std.proofs.Common.{◌≡◌, drop}
use Rattle.xq_meaning.specs.Operators.{some_pair}
use Rattle.xq_functions.specs.Answers.{atomics}
use Rattle.xq_functions.proofs.comparisons.some_pair.Given as goal

abbrev pub invariant-loop-atom : goal.invariant-loop-atom
invariant-loop-atom l = some_pair l.op (atomics (drop l.atom-index l.left)) (atomics l.right) ≡ some_pair l.op (atomics l.left) (atomics l.right)
