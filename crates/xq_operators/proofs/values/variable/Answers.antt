use Rattle.std.proofs.Common.{◌∙◌, ap, sym, subst, Ok}
use Rattle.xq_tuples.specs.Views.{values_of}
use Rattle.xq_meaning.specs.Readings.{items_at, AreIn}
use Rattle.xq_operators.proofs.Growth.{value_in}
use Rattle.xq_operators.proofs.values.variable.Goals as goal

pub returns : goal.returns
returns c = λ trees inside.
    let items = c.in_ok-slot.ensures in
    let v = value_in trees c.args.number (values_of c.args.slots.now) inside in
    (subst (AreIn trees) (sym items) v.0, ap (λ xs. (Ok xs, trees)) (v.1 ∙ ap (items_at trees) (sym items)))
