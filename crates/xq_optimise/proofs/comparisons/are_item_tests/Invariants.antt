use Rattle.std.proofs.Common.{take}
use Rattle.std.specs.List.{AllByRecursion}
use Rattle.xq_optimise.specs.Sure.{SurelyKeeps}
use Rattle.xq_optimise.proofs.comparisons.are_item_tests.Given as goal

abbrev pub invariant-loop-predicate : goal.invariant-loop-predicate
invariant-loop-predicate l = AllByRecursion (SurelyKeeps l.known) (take l.predicate-index l.predicates)
