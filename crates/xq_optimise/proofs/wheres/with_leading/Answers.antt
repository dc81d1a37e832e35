use Rattle.xq_optimise.proofs.Conjuncts.{none_taken, next_taken}
use Rattle.xq_optimise.proofs.wheres.with_leading.Goals as goal

pub loop-test-init : goal.loop-test-init
loop-test-init c = none_taken c.args.known.now c.args.left.now.items c.args.found

pub loop-test-preserved : goal.loop-test-preserved
loop-test-preserved c =
    next_taken c.args.known.now c.args.left.now.items c.loop-test.left.items c.last_test.new.left.items c.args.found c.loop-test.after _ c.in-Some.test
    c.loop-test.invariant c.in-Some.ensures.taken c.in-Some.ensures.test c.in_ok-push.ensures.ok
