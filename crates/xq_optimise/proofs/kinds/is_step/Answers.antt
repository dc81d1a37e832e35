use Rattle.xq_optimise.proofs.kinds.is_step.Goals as goal

pub returns-in-Step : goal.returns-in-Step
returns-in-Step c = λ e. (c.in-Step.field-0, c.in-Step.field-1, c.in-Step.field-2, c.in-Step.is)
