use Rattle.std.proofs.Common.{◌++◌, reverse, length}
use Rattle.xq_optimise.specs.private.Joins.{SameList}
use Rattle.xq_optimise.proofs.joins.with_joins.Given as goal

-- those that are made and those that are left give what all give
abbrev pub invariant-loop-next : goal.invariant-loop-next
invariant-loop-next l = SameList l.outer l.fn.list (l.found ++ reverse l.left.items)

abbrev pub decreases-loop-next : goal.decreases-loop-next
decreases-loop-next l = length l.left.items
