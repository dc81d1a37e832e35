use Rattle.std.proofs.Common.{ap, sym, subst, Ok}
use Rattle.xq_meaning.specs.Readings.{items_at, AreIn}
use Rattle.xq_operators.proofs.values.boolean.Goals as goal

pub returns : goal.returns
returns c = λ trees.
    let items = c.in_ok-single.ensures in
    (subst (AreIn trees) (sym items) (tt, tt), ap (λ xs. (Ok (items_at trees xs), trees)) (sym items))
