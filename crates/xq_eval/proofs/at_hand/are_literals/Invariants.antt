use Rattle.std.proofs.Common.{take}
use Rattle.std.specs.List.{AllByRecursion}
use Rattle.xq_eval.specs.private.AtHand.{IsConstant}
use Rattle.xq_eval.proofs.at_hand.are_literals.Given as goal

abbrev pub invariant-loop-part : goal.invariant-loop-part
invariant-loop-part l = AllByRecursion IsConstant (take l.part-index l.parts)
