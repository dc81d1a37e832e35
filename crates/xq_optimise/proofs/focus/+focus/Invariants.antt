use Rattle.std.proofs.Common.{◌+◌, ◌*◌, take}
use Rattle.std.specs.List.{AllByRecursion}
use Rattle.xq_optimise.specs.Sure.{IgnoresBy}
use Rattle.xq_optimise.specs.private.Invariants.{OperandIgnores}
use Rattle.xq_optimise.proofs.focus.+focus.Given as goal

abbrev pub invariant-all_ignore-loop-part : goal.invariant-all_ignore-loop-part
invariant-all_ignore-loop-part l = AllByRecursion (IgnoresBy l.at_node) (take l.part-index l.parts)

abbrev pub invariant-operands_ignore-loop-part : goal.invariant-operands_ignore-loop-part
invariant-operands_ignore-loop-part l = AllByRecursion (OperandIgnores l.at_node) (take l.part-index l.operands)

-- # Measures: at one depth a function calls those of lower rank

abbrev pub decreases-ignores : goal.decreases-ignores
decreases-ignores a = 3 * goal.size-ignores a

abbrev pub decreases-all_ignore : goal.decreases-all_ignore
decreases-all_ignore a = 3 * goal.size-all_ignore a + 1

abbrev pub decreases-operands_ignore : goal.decreases-operands_ignore
decreases-operands_ignore a = 3 * goal.size-operands_ignore a + 1
