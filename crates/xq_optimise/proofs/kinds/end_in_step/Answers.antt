use Rattle.std.proofs.Common.{arith, take, subst}
use Rattle.std.proofs.lemmas.Bool.{false≢true}
use Rattle.std.proofs.lemmas.List.{take_all}
use Rattle.xq_optimise.specs.private.Kinds.{EndsInNodes}
use Rattle.xq_optimise.proofs.Elements.{next_taken}
use Rattle.xq_optimise.proofs.kinds.end_in_step.Goals as goal

pub loop-step-init : goal.loop-step-init
loop-step-init c = λ e. absurd (false≢true e)

pub loop-step-preserved : goal.loop-step-preserved
loop-step-preserved c = λ e. (
  take c.loop-step.step-index c.args.steps.now,
  c.step-item.result,
  next_taken c.args.steps.now c.loop-step.step-index c.step-item.result (omega arith) c.step-item.is,
  c.leaves_nodes-ends.ensures e,
)

pub returns : goal.returns
returns c = λ e. subst EndsInNodes (take_all c.loop-step.step-index c.args.steps.now (omega arith)) (c.loop-step.invariant e)
