use Rattle.xq_optimise.proofs.KindLaws.{each_step_after}
use Rattle.xq_optimise.proofs.Scans.{scan_after}
use Rattle.xq_optimise.proofs.kinds.leaves_nodes.Goals as goal

pub returns-in-Scan : goal.returns-in-Scan
returns-in-Scan c = λ e. scan_after c.args.step.now (c.in-Scan.field-0, c.in-Scan.field-1, c.in-Scan.is)

pub returns-in-Each : goal.returns-in-Each
returns-in-Each c = λ e. each_step_after c.args.step.now c.in-Each.part c.in-Each.is (c.is_step.ensures e)
