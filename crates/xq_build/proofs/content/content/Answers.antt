use Rattle.std.proofs.Common.{sym, subst, List, map}
use Rattle.xq_trees.specs.Items.{item_view}
use Rattle.xq_trees.specs.Levels.{flat}
use Rattle.xq_meaning.specs.Content.{content}
use Rattle.xq_meaning.specs.Readings.{items_at}
use Rattle.xq_build.specs.private.Leaves.{Leaf}
use Rattle.xq_build.specs.private.Surplus.{StandsFor}
use Rattle.xq_build.proofs.Surpluses.{content_stands}
use Rattle.xq_build.proofs.content.content.Goals as goal

pub returns-clause-content : goal.returns-clause-content
returns-clause-content g c = λ h.
    (let trees = g.L.TreeSource.forest c.args.source.now in
    let xs = items_at trees (map item_view c.args.items.now) in
    subst (λ (ps : List Leaf). StandsFor ps (content trees xs)) (sym c.in_ok-rows-2.ensures) (content_stands trees xs (map flat c.in_ok-rows.rows.rows) (c.in_ok-rows.ensures.flattens h)))
