use Rattle.xq_axes.proofs.Merging.{merged}
use Rattle.xq_axes.proofs.merges.merge.Goals as goal

pub returns-clause-nodes : goal.returns-clause-nodes
returns-clause-nodes c = λ trees have. merged trees c.args.nodes.items have c.merge.result.items c.merge.ensures.rising c.merge.ensures.members
