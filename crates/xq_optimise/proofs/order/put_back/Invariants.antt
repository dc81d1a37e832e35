use Rattle.std.proofs.Common.{◌≡◌, ◌++◌, reverse, length}
use Rattle.xq_optimise.proofs.order.put_back.Given as goal

abbrev pub invariant-loop-clause : goal.invariant-loop-clause
invariant-loop-clause l = l.after.items ++ reverse l.others.items ≡ l.fn.left.items ++ reverse l.fn.others.items

abbrev pub decreases-loop-clause : goal.decreases-loop-clause
decreases-loop-clause l = length l.others.items
