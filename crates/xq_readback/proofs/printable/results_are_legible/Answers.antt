use Rattle.xq_readback.proofs.Queries.{results_are_legible}
use Rattle.xq_readback.proofs.printable.results_are_legible.Goals as goal

pub returns : goal.returns
returns c = results_are_legible
