use Rattle.std.proofs.Common.{arith}
use Rattle.xq_joins.proofs.Lists.{all_next, all_done}
use Rattle.xq_eval.specs.private.AtHand.{IsConstant}
use Rattle.xq_eval.proofs.at_hand.are_literals.Goals as goal

pub loop-part-preserved : goal.loop-part-preserved
loop-part-preserved c =
    all_next IsConstant c.args.parts.now c.loop-part.part-index c.part-item.result c.loop-part.invariant (omega arith) c.part-item.is
    (c.is_literal.ensures c.if-not-is_literal.false)

pub returns : goal.returns
returns c = λ _. all_done IsConstant c.args.parts.now c.loop-part.part-index (omega arith) c.loop-part.invariant
