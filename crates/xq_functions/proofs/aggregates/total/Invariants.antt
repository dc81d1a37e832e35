use Rattle.std.proofs.Common.{◌≡◌, drop, pos}
use Rattle.xq_atoms.specs.Atom.{Integer, atomic_of}
use Rattle.xq_meaning.specs.Functions.{added}
use Rattle.xq_functions.specs.Answers.{atomics}
use Rattle.xq_functions.proofs.aggregates.total.Given as goal

abbrev pub invariant-loop-atom : goal.invariant-loop-atom
invariant-loop-atom l = added (atomic_of l.total) (atomics (drop l.atom-index l.atoms)) ≡ added (Integer (pos 0)) (atomics l.atoms)
