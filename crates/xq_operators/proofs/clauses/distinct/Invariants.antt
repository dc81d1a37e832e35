use Rattle.std.proofs.Common.{◌≡◌, take, nat_eq}
use Rattle.xq_trees.specs.Tuples.{firsts}
use Rattle.xq_operators.proofs.clauses.distinct.Given as goal

abbrev pub invariant-loop-slot : goal.invariant-loop-slot
invariant-loop-slot l = l.distinct.items ≡ firsts nat_eq (take l.slot-index l.slots)
