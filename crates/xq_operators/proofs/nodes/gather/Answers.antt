use Rattle.std.proofs.Common.{refl}
use Rattle.xq_trees.specs.Items.{item_views}
use Rattle.xq_meaning.specs.Operators.{gathered}
use Rattle.xq_meaning.specs.Readings.{items_at}
use Rattle.xq_functions.specs.Answers.{items_of}
use Rattle.xq_operators.proofs.Existing.{exist_at}
use Rattle.xq_operators.proofs.Giving.{told, gives_judged, gathered_exist}
use Rattle.xq_operators.proofs.nodes.gather.Goals as goal

pub returns : goal.returns
returns c = λ trees inside.
    let views = item_views c.args.items in
    let judgement = gathered trees (items_at trees views) in
    gives_judged judgement trees trees c.gather.result refl (told (items_of trees) judgement c.gather.result (c.gather.ensures trees inside)) (gathered_exist trees (items_at trees views) (exist_at trees views inside))
