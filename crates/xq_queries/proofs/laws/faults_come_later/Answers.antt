use Rattle.xq_queries.proofs.Later.{faults_late}
use Rattle.xq_queries.proofs.laws.faults_come_later.Goals as goal

pub returns : goal.returns
returns c = faults_late
