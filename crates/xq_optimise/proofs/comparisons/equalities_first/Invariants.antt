use Rattle.std.proofs.Common.{List, length}
use Rattle.std.specs.List.{AllByRecursion}
use Rattle.xq_optimise.specs.declared.held.Held.{Held}
use Rattle.xq_optimise.specs.Sure.{SurelyKeeps}
use Rattle.xq_optimise.proofs.EqualitiesFirst.{SplitBy}
use Rattle.xq_optimise.proofs.comparisons.equalities_first.Given as goal

abbrev pub invariant-loop-next : goal.invariant-loop-next
invariant-loop-next l =
    (known : List Held) → AllByRecursion (SurelyKeeps known) l.fn.predicates → SplitBy known l.fn.predicates l.left.items l.equalities l.others

abbrev pub decreases-loop-next : goal.decreases-loop-next
decreases-loop-next l = length l.left.items
