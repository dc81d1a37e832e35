use Rattle.std.proofs.Common.{take}
use Rattle.std.specs.List.{AllByRecursion}
use Rattle.xq_optimise.specs.private.Kinds.{IsString}
use Rattle.xq_optimise.proofs.kinds.are_strings.Given as goal

abbrev pub invariant-loop-part : goal.invariant-loop-part
invariant-loop-part l = AllByRecursion IsString (take l.part-index l.parts)
