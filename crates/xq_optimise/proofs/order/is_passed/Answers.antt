use Rattle.std.proofs.Common.{inr}
use Rattle.xq_optimise.proofs.order.is_passed.Goals as goal

pub returns-in-Let : goal.returns-in-Let
returns-in-Let c = λ e.
    inr (c.in-Let.value, c.in-Let.is, c.is_nodes.ensures.sure e, c.is_nodes.ensures.below e)
