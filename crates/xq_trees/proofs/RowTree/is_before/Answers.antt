use Rattle.std.proofs.Common.{refl}
use Rattle.xq_trees.proofs.RegionTable.{order_is_places}
use Rattle.xq_trees.proofs.RowTree.is_before.Goals as goal

pub returns : goal.returns
returns c = order_is_places c.args.self.now c.args.node c.args.other _ c.requires.node_in c.requires.other_in refl
