use Rattle.std.proofs.Common.{arith, refl}
use Rattle.xq_optimise.specs.Sure.{SurelyDecides}
use Rattle.xq_optimise.proofs.Elements.{all_next, all_done}
use Rattle.xq_optimise.proofs.predicates.are_sure.Goals as goal

pub loop-part-preserved : goal.loop-part-preserved
loop-part-preserved c =
    all_next (SurelyDecides c.args.known.now) c.args.parts.now c.loop-part.part-index c.part-item.result c.loop-part.invariant (omega arith) c.part-item.is (c.if-not-is_sure.ensures refl)

pub returns : goal.returns
returns c = λ _. all_done (SurelyDecides c.args.known.now) c.args.parts.now c.loop-part.part-index (omega arith) c.loop-part.invariant
