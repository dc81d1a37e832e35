use Rattle.xq_queries.proofs.Back.{values_are_printable}
use Rattle.xq_queries.proofs.laws.values_are_printable.Goals as goal

pub returns : goal.returns
returns c = values_are_printable c.results_are_legible.ensures c.legible_is_printable.ensures
