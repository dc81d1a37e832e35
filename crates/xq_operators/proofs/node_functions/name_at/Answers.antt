use Rattle.std.proofs.Common.{◌∙◌, ap}
use Rattle.xq_trees.specs.Rows.{rows, row_at}
use Rattle.xq_trees.specs.Tree.{Label}
use Rattle.xq_sources.specs.Lent.{placed_lent}
use Rattle.xq_sources.specs.Sources.{tree_at}
use Rattle.xq_axes.proofs.Sizes.{one_row, label_read}
use Rattle.xq_operators.proofs.node_functions.name_at.Goals as goal

pub returns-clause-name : goal.returns-clause-name
returns-clause-name g c = λ k.
    let trees = g.L.TreeSource.forest c.args.source.now in
    let node = c.args.node in
    let there = c.in_ok-fetch_row.ensures.exists k in
    let x = c.in-Some.row in
    let read = one_row c.lent.result (placed_lent x) (node.pre, row_at (rows (tree_at trees node.tree)) node.pre) (c.lent.ensures ∙ c.in_ok-fetch_row.ensures.found k) c.in-Some.ensures.row in
    c.in_ok-from_str.ensures.ok ∙ c.name.ensures ∙ ap (λ (l : Label). l.name) (label_read trees node x there read)
