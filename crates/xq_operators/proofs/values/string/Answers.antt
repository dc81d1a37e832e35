use Rattle.std.proofs.Common.{◌≡◌, [], ◌∷◌, ◌∙◌, ap, sym, subst, Ok}
use Rattle.xq_atoms.specs.Atom.{String}
use Rattle.xq_trees.specs.Items.{Value, item_views}
use Rattle.xq_meaning.specs.Readings.{items_at, AreIn}
use Rattle.xq_operators.proofs.values.string.Goals as goal

pub returns : goal.returns
returns c = λ trees.
    let items : item_views c.in_ok-single.field-0 ≡ Value (String c.args.text.now) ∷ [] = c.in_ok-single.ensures ∙ ap (λ bytes. Value (String bytes) ∷ []) c.in_ok-text.ensures.ok in
    (subst (AreIn trees) (sym items) (tt, tt), ap (λ xs. (Ok (items_at trees xs), trees)) (sym items))
