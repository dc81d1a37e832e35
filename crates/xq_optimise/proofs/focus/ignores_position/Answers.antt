use Rattle.xq_optimise.proofs.FocusFree.{of_position}
use Rattle.xq_optimise.proofs.focus.ignores_position.Goals as goal

pub returns : goal.returns
returns c = λ e. of_position c.args.plan.now (c.ignores.ensures e)
