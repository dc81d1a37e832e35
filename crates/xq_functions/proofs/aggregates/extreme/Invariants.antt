use Rattle.std.proofs.Common.{◌≡◌, drop, true}
use Rattle.xq_atoms.specs.Atom.{atomic_of}
use Rattle.xq_atoms.specs.Compare.{key, of_one_kind}
use Rattle.xq_meaning.specs.Functions.{extreme}
use Rattle.xq_functions.specs.Answers.{atomics}
use Rattle.xq_functions.specs.private.Running.{choosing, is_better}
use Rattle.xq_functions.proofs.aggregates.extreme.Given as goal

abbrev pub invariant-loop-atom : goal.invariant-loop-atom
invariant-loop-atom l = record {
  choice : choosing (is_better l.better) (atomic_of l.first) (atomic_of l.best) (atomics (drop l.atom-index l.others)) ≡ extreme (is_better l.better) (atomics l.atoms);
  kind : of_one_kind (key (atomic_of l.first)) (key (atomic_of l.best)) ≡ true;
}
