use Rattle.std.proofs.Common.{ap, sym, ◌∙◌, subst}
use Rattle.xq_meaning.specs.Readings.{items_at}
use Rattle.xq_functions.specs.private.Places.{IsInOrder}
use Rattle.xq_functions.proofs.SetLemmas.{in_order-spots}
use Rattle.xq_functions.proofs.sets.in_order.Goals as goal

pub returns-clause-items : goal.returns-clause-items
returns-clause-items c trees inside =
    let sorted = c.deref.result.now in
    let ordered = subst (IsInOrder c.args.spots.items) (sym c.deref.ensures.value) c.sorted.ensures in
    ap (items_at trees) c.in_ok-nodes_at.ensures ∙ in_order-spots trees c.args.spots.items sorted inside ordered
