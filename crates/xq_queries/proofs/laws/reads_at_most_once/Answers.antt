use Rattle.xq_queries.proofs.Once.{one_reading}
use Rattle.xq_queries.proofs.laws.reads_at_most_once.Goals as goal

pub returns : goal.returns
returns c = one_reading
