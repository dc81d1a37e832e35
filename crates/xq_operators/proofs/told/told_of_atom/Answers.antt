use Rattle.std.proofs.Common.{◌∷◌, [], ◌∙◌, ap, sym}
use Rattle.xq_meaning.specs.Items.{Node}
use Rattle.xq_meaning.specs.Readings.{node_at}
use Rattle.xq_operators.proofs.told.told_of_atom.Goals as goal

pub returns-clause-tells : goal.returns-clause-tells
returns-clause-tells g c = λ k addresses.
    let old = g.L.TreeSource.forest c.args.source.now in
    let kind = sym c.argument_of.ensures ∙ c.in-Atoms.is in
    c.call_on_atom.ensures kind old addresses (Node (node_at old c.args.node) ∷ []) (ap (λ a. a ∷ []) (sym (c.in_ok-atom.ensures.value k)))
