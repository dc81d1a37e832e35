use Rattle.std.proofs.Common.{◌≡◌, ◌∙◌, ap, map, subst}
use Rattle.xq_atoms.specs.Atom.{atomic_of}
use Rattle.xq_trees.specs.Items.{item_view}
use Rattle.xq_meaning.specs.Items.{atomized}
use Rattle.xq_meaning.specs.Operators.{signed}
use Rattle.xq_meaning.specs.Readings.{items_at}
use Rattle.xq_operators.specs.Views.{GivesSequence}
use Rattle.xq_operators.proofs.AtomResults.{plain_gives, signed_atoms}
use Rattle.xq_operators.proofs.operators.sign.Goals as goal

pub returns-clause-gives : goal.returns-clause-gives
returns-clause-gives g c = λ clean items_in.
    let old = g.W.TreeSource.forest c.args.world.now in
    let new = g.W.TreeSource.forest c.atomized.new.source in
    let value : map atomic_of c.deref.result.now ≡ atomized old (items_at old (map item_view c.args.items.now)) = ap (map atomic_of) c.deref.ensures.value ∙ c.in_ok-atoms.ensures.value clean in
    subst (λ as'. GivesSequence (signed c.args.signs.now as', old) new c.signed.result) value
    (plain_gives (signed c.args.signs.now (map atomic_of c.deref.result.now)) old new c.signed.result (signed_atoms c.args.signs.now (map atomic_of c.deref.result.now)) c.atomized.ensures.keeps (c.signed.ensures old))
