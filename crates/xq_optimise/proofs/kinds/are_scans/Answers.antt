use Rattle.std.proofs.Common.{arith}
use Rattle.xq_optimise.specs.private.Parts.{IsScan}
use Rattle.xq_optimise.proofs.Elements.{all_next, all_done}
use Rattle.xq_optimise.proofs.kinds.are_scans.Goals as goal

pub loop-step-preserved : goal.loop-step-preserved
loop-step-preserved c =
    all_next IsScan c.args.steps.now c.loop-step.step-index c.step-item.result c.loop-step.invariant (omega arith) c.step-item.is (c.in-Scan.field-0, c.in-Scan.field-1, c.in-Scan.is)

pub returns-clause-all : goal.returns-clause-all
returns-clause-all c = λ _. all_done IsScan c.args.steps.now c.loop-step.step-index (omega arith) c.loop-step.invariant
