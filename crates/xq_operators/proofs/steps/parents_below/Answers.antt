use Rattle.xq_operators.proofs.Growth.{goes_on_to}
use Rattle.xq_operators.proofs.steps.parents_below.Goals as goal

pub returns-clause-goes : goal.returns-clause-goes
returns-clause-goes g c = goes_on_to c.in_ok-found.ensures.goes c.scan.ensures.goes

pub returns-in_err-found-clause-goes : goal.returns-in_err-found-clause-goes
returns-in_err-found-clause-goes g c = c.in_err-found.ensures.goes
