use Rattle.std.proofs.Common.{map}
use Rattle.xq_trees.specs.Items.{item_view}
use Rattle.xq_meaning.specs.Operators.{by_nodes}
use Rattle.xq_functions.specs.Answers.{items_of, lent_items}
use Rattle.xq_functions.specs.private.Nodes.{by_places}
use Rattle.xq_functions.proofs.AnswerLemmas.{Gives-same}
use Rattle.xq_functions.proofs.NodeLemmas.{by_nodes-places}
use Rattle.xq_functions.proofs.nodes.compare_nodes.Goals as goal

pub returns : goal.returns
returns c trees left right =
    let xs = map item_view c.args.left.now in
    let ys = map item_view c.args.right.now in
    Gives-same (items_of trees) (by_nodes c.args.comparison (lent_items trees c.args.left.now) (lent_items trees c.args.right.now)) (by_places c.args.comparison xs ys) c.by_places.result
    (by_nodes-places trees c.args.comparison xs ys left right) (c.by_places.ensures trees)
