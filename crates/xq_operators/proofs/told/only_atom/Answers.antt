use Rattle.std.proofs.Common.{◌∷◌, [], ◌∙◌, ap, sym}
use Rattle.xq_meaning.specs.Items.{atomized}
use Rattle.xq_operators.specs.Views.{nodes_in}
use Rattle.xq_operators.proofs.told.only_atom.Goals as goal

pub returns-clause-atom : goal.returns-clause-atom
returns-clause-atom g c = λ k.
    let old = g.L.TreeSource.forest c.args.source.now in
    ap (λ ps. atomized old (nodes_in old c.args.tree ps)) c.in-Some.ensures ∙ ap (λ a. a ∷ []) (sym (c.in_ok-atom.ensures.value k))
