use Rattle.std.proofs.Common.{arith, take, subst}
use Rattle.std.proofs.lemmas.Bool.{false≢true}
use Rattle.std.proofs.lemmas.List.{take_all}
use Rattle.xq_optimise.specs.private.Kinds.{EndsInText}
use Rattle.xq_optimise.proofs.Elements.{next_taken}
use Rattle.xq_optimise.proofs.kinds.end_in_text.Goals as goal

pub loop-part-init : goal.loop-part-init
loop-part-init c = λ e. absurd (false≢true e)

pub loop-part-preserved : goal.loop-part-preserved
loop-part-preserved c = λ e. (
  take c.loop-part.part-index c.args.parts.now,
  c.part-item.result,
  next_taken c.args.parts.now c.loop-part.part-index c.part-item.result (omega arith) c.part-item.is,
  c.gives_text-ends.ensures e,
)

pub returns : goal.returns
returns c = λ e. subst EndsInText (take_all c.loop-part.part-index c.args.parts.now (omega arith)) (c.loop-part.invariant e)
