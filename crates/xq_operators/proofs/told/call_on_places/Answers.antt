use Rattle.std.proofs.Common.{sym, subst}
use Rattle.xq_functions.specs.Answers.{TellsAtom}
use Rattle.xq_meaning.specs.Functions as Functions
use Rattle.xq_operators.specs.Views.{nodes_in}
use Rattle.xq_operators.proofs.told.call_on_places.Goals as goal

pub returns-in-Some-clause-tells : goal.returns-in-Some-clause-tells
returns-in-Some-clause-tells g c = λ k addresses.
    c.in-Some.ensures.tells (g.L.TreeSource.forest c.args.source.now) addresses c.args.tree

pub returns-clause-tells : goal.returns-clause-tells
returns-clause-tells g c = λ k addresses.
    let old = g.L.TreeSource.forest c.args.source.now in
    subst (λ ps. TellsAtom (Functions.of_one c.args.function old addresses (nodes_in old c.args.tree ps)) c.told_of_node.result) (sym c.in-Some-only_place.ensures) (c.told_of_node.ensures.tells k addresses)
