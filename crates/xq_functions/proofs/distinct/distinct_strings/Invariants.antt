use Rattle.std.proofs.Common.{take}
use Rattle.xq_trees.specs.Items.{item_views}
use Rattle.xq_functions.specs.Answers.{atomics}
use Rattle.xq_functions.specs.private.Running.{Distinct}
use Rattle.xq_functions.proofs.DistinctLemmas.{keys_of_strings}
use Rattle.xq_functions.proofs.distinct.distinct_strings.Given as goal

abbrev pub invariant-loop-atom : goal.invariant-loop-atom
invariant-loop-atom l = Distinct (atomics (take l.atom-index l.atoms)) (keys_of_strings l.seen.keys) (item_views l.items)
