use Rattle.std.proofs.Common.{arith}
use Rattle.xq_trees.proofs.Encoding.{length-encoded}
use Rattle.xq_trees.proofs.RegionTable.{region_is_axis}
use Rattle.xq_trees.proofs.RowTree.is_on_axis.Goals as goal

pub returns : goal.returns
returns c =
    region_is_axis c.args.axis c.args.self.now _ c.args.node c.args.other c.is_in_region.result c.rows.ensures.rows c.requires.node_in c.requires.other_in c.is_in_region.ensures

pub is_in_region-requires-clause-node_in : goal.is_in_region-requires-clause-node_in
is_in_region-requires-clause-node_in c =
    omega (arith, c.requires.node_in, length-encoded c.rows.result.now c.args.self.now c.rows.ensures.rows)

pub is_in_region-requires-clause-other_in : goal.is_in_region-requires-clause-other_in
is_in_region-requires-clause-other_in c =
    omega (arith, c.requires.other_in, length-encoded c.rows.result.now c.args.self.now c.rows.ensures.rows)
