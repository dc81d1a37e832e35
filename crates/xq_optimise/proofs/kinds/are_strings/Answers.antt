use Rattle.std.proofs.Common.{arith}
use Rattle.xq_optimise.specs.private.Kinds.{IsString}
use Rattle.xq_optimise.proofs.Elements.{all_next, all_done}
use Rattle.xq_optimise.proofs.kinds.are_strings.Goals as goal

pub loop-part-preserved : goal.loop-part-preserved
loop-part-preserved c =
    all_next IsString c.args.parts.now c.loop-part.part-index c.part-item.result c.loop-part.invariant (omega arith) c.part-item.is (c.in-Str.field-0, c.in-Str.is)

pub returns : goal.returns
returns c = λ _. all_done IsString c.args.parts.now c.loop-part.part-index (omega arith) c.loop-part.invariant
