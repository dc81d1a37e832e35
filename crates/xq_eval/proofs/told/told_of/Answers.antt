use Rattle.std.proofs.Common.{◌∷◌, [], sym, subst}
use Rattle.xq_trees.specs.declared.items.Item.{Item}
use Rattle.xq_trees.specs.Items.{item_view}
use Rattle.xq_functions.specs.Answers.{TellsAtom}
use Rattle.xq_meaning.specs.Functions.{of_one}
use Rattle.xq_meaning.specs.Readings.{item_at}
use Rattle.xq_eval.proofs.told.told_of.Goals as goal

pub returns-clause-tells : goal.returns-clause-tells
returns-clause-tells g c = λ k addresses.
    let f = g.L.TreeSource.forest c.args.source.now in
    subst (λ (x : Item). TellsAtom (of_one c.args.function f addresses (item_at f (item_view x) ∷ [])) c.call_on_places.result) (sym c.in-Node.is) (c.call_on_places.ensures.tells k addresses)
