use Rattle.xq_server.proofs.Telling.{understood}
use Rattle.xq_server.proofs.queries.plan_of.Goals as goal

pub returns : goal.returns
returns c = understood c.reads_at_most_once.ensures c.faults_come_later.ensures c.args.text.now c.read.result c.read.ensures
