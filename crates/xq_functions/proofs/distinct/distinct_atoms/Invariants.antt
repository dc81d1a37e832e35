use Rattle.std.proofs.Common.{map, take}
use Rattle.xq_atoms.specs.Compare.{key_of}
use Rattle.xq_trees.specs.Items.{item_views}
use Rattle.xq_functions.specs.Answers.{atomics}
use Rattle.xq_functions.specs.private.Running.{Distinct}
use Rattle.xq_functions.proofs.distinct.distinct_atoms.Given as goal

abbrev pub invariant-loop-atom : goal.invariant-loop-atom
invariant-loop-atom l = Distinct (atomics (take l.atom-index l.atoms)) (map key_of l.seen.keys) (item_views l.items)
