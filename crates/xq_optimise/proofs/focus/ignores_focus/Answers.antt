use Rattle.xq_optimise.proofs.FocusFree.{of_focus}
use Rattle.xq_optimise.proofs.focus.ignores_focus.Goals as goal

pub returns : goal.returns
returns c = λ e. of_focus c.args.plan.now (c.ignores.ensures e)
