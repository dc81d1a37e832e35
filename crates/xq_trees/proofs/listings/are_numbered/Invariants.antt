use Rattle.std.proofs.Common.{take}
use Rattle.xq_trees.specs.Rows.{AreNumbered}
use Rattle.xq_trees.proofs.listings.are_numbered.Given as goal

abbrev pub invariant-loop-at : goal.invariant-loop-at
invariant-loop-at l = AreNumbered 0 (take l.at l.rows)
