use Rattle.std.proofs.Common.{length}
use Rattle.xq_optimise.specs.private.Wheres.{TakesTests}
use Rattle.xq_optimise.proofs.wheres.with_leading.Given as goal

abbrev pub invariant-loop-test : goal.invariant-loop-test
invariant-loop-test l = TakesTests l.fn.known l.fn.left.items l.left.items l.fn.found l.after

abbrev pub decreases-loop-test : goal.decreases-loop-test
decreases-loop-test l = length l.left.items
