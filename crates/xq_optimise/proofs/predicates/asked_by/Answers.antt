use Rattle.std.proofs.Common.{subst}
use Rattle.xq_optimise.specs.private.Positions.{TestsPosition}
use Rattle.xq_optimise.proofs.Splitting.{less_first, less_equal_first}
use Rattle.xq_optimise.proofs.predicates.asked_by.Goals as goal

pub returns-in-Less : goal.returns-in-Less
returns-in-Less c = λ known n p h.
    less_first known n p (subst (λ by. TestsPosition by n p) c.in-Less.is h)

pub returns-in-LessEqual : goal.returns-in-LessEqual
returns-in-LessEqual c = λ known n p h.
    less_equal_first known n p (subst (λ by. TestsPosition by n p) c.in-LessEqual.is h)
