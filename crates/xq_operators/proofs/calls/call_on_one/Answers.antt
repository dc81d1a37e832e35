use Rattle.std.proofs.Common.{[], ◌∷◌}
use Rattle.xq_trees.specs.Items.{item_views}
use Rattle.xq_operators.proofs.CallForms.{call_gives}
use Rattle.xq_operators.proofs.calls.call_on_one.Goals as goal

pub returns-clause-gives : goal.returns-clause-gives
returns-clause-gives g c = λ k inside items_in.
    call_gives (g.W.TreeSource.forest c.args.world.now) (g.W.TreeSource.forest c.on_one.new.source) c.args.frame c.args.function (item_views c.args.items ∷ []) c.on_one.result c.on_one.ensures.keeps inside (items_in, tt) (c.on_one.ensures.gives k)
