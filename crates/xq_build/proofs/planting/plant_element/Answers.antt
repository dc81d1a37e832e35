use Rattle.std.proofs.Common.{map}
use Rattle.xq_trees.proofs.AttributeRuns.{if_ok}
use Rattle.xq_trees.specs.Items.{item_view}
use Rattle.xq_build.proofs.Planted.{grafted_element}
use Rattle.xq_build.proofs.planting.plant_element.Goals as goal

pub returns-clause-grown : goal.returns-clause-grown
returns-clause-grown g c =
    if_ok _ _ (λ did grown yes.
    grafted_element c.args.name.now (map item_view c.args.items.now) (g.W.TreeSource.forest c.args.world.now) (g.W.TreeSource.forest c.append_parent.new.self) (grown yes))
    c.append_parent.result c.append_parent.ensures.grown
