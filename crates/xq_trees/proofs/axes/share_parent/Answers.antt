use Rattle.std.proofs.Common.{◌≡◌, true, map, sym, ◌∙◌, arith}
use Rattle.xq_trees.specs.Rows.{row_of, row_at}
use Rattle.xq_trees.specs.RegionTests.{any_below, common_parent}
use Rattle.xq_trees.proofs.Checking.{both_true}
use Rattle.xq_trees.proofs.RegionTable.{any_below_true}
use Rattle.std.proofs.lemmas.Bool.{eq-eqb}
use Rattle.xq_trees.proofs.axes.share_parent.Goals as goal

pub returns-then-is_common_parent : goal.returns-then-is_common_parent
returns-then-is_common_parent c =
    let rs = map row_of c.args.rows.now in
    let found : common_parent rs c.args.node c.args.other c.loop-parent.parent ≡ true = sym c.is_common_parent.ensures ∙ c.if-is_common_parent.true in
    let some : any_below (common_parent rs c.args.node c.args.other) c.args.node ≡ true = any_below_true (common_parent rs c.args.node c.args.other) c.args.node c.loop-parent.parent (omega arith) found in
    let level = eq-eqb (row_at rs c.args.other).level (row_at rs c.args.node).level (cc) in
    sym (both_true _ _ level some)
