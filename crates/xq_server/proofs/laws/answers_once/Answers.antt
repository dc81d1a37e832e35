use Rattle.xq_server.proofs.Once.{one_answer}
use Rattle.xq_server.proofs.laws.answers_once.Goals as goal

pub returns : goal.returns
returns c = one_answer c.reads_at_most_once.ensures
