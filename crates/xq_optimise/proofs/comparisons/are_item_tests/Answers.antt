use Rattle.std.proofs.Common.{arith, refl}
use Rattle.xq_optimise.specs.Sure.{SurelyKeeps}
use Rattle.xq_optimise.proofs.Elements.{all_next, all_done}
use Rattle.xq_optimise.proofs.comparisons.are_item_tests.Goals as goal

pub loop-predicate-preserved : goal.loop-predicate-preserved
loop-predicate-preserved c =
    all_next (SurelyKeeps c.args.known.now) c.args.predicates.now c.loop-predicate.predicate-index c.predicate-item.result c.loop-predicate.invariant (omega arith) c.predicate-item.is (c.if-not-is_item_test.ensures refl)

pub returns : goal.returns
returns c = λ _. all_done (SurelyKeeps c.args.known.now) c.args.predicates.now c.loop-predicate.predicate-index (omega arith) c.loop-predicate.invariant
