use Rattle.std.proofs.Common.{take}
use Rattle.std.specs.List.{AllByRecursion}
use Rattle.xq_optimise.specs.Sure.{SurelyDecides}
use Rattle.xq_optimise.proofs.predicates.are_sure.Given as goal

abbrev pub invariant-loop-part : goal.invariant-loop-part
invariant-loop-part l = AllByRecursion (SurelyDecides l.known) (take l.part-index l.parts)
