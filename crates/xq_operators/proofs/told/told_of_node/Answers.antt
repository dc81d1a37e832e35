use Rattle.std.proofs.Common.{◌∷◌, [], ◌∙◌, ap, sym, Ok}
use Rattle.xq_meaning.specs.Arguments.{text}
use Rattle.xq_meaning.specs.Functions as Functions
use Rattle.xq_meaning.specs.Items.{Node, Atom}
use Rattle.xq_meaning.specs.Readings.{node_at}
use Rattle.xq_operators.proofs.told.told_of_node.Goals as goal

pub returns-in_ok-text-in-String-clause-tells : goal.returns-in_ok-text-in-String-clause-tells
returns-in_ok-text-in-String-clause-tells g c = λ k addresses.
    let old = g.L.TreeSource.forest c.args.source.now in
    let xs = Node (node_at old c.args.node) ∷ [] in
    ap (λ f. Functions.of_one f old addresses xs) c.in-String.is ∙ ap (λ t. Ok (text t)) (sym (c.in_ok-text-in-String.ensures.value k))

pub returns-in_ok-atom-in-Data-clause-tells : goal.returns-in_ok-atom-in-Data-clause-tells
returns-in_ok-atom-in-Data-clause-tells g c = λ k addresses.
    let old = g.L.TreeSource.forest c.args.source.now in
    let xs = Node (node_at old c.args.node) ∷ [] in
    ap (λ f. Functions.of_one f old addresses xs) c.in-Data.is ∙ ap (λ a. Ok (Atom a ∷ [])) (sym (c.in_ok-atom-in-Data.ensures.value k))
