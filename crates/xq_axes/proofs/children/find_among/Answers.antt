use Rattle.std.proofs.Common.{Err, inl, inr, arith}
use Rattle.std.proofs.lemmas.List.Sorted.{searched}
use Rattle.std.proofs.lemmas.Bool.{cases_lt}
use Rattle.xq_axes.proofs.Lists.{not_among}
use Rattle.xq_axes.proofs.ManyChildren.{flat}
use Rattle.xq_axes.proofs.children.find_among.Goals as goal

pub returns-in-Err-clause-none : goal.returns-in-Err-clause-none
returns-in-Err-clause-none c = λ up _. (
    let vs = c.args.places.now in
    let index = c.in-Err.field-0 in
    let at = searched vs c.args.place (Err index) c.in-Err.ensures.position (flat vs up) in
    not_among vs c.args.place (λ i l same. elim (cases_lt i index) [
      | inl less ↦ (let b = at.1 i less in omega (arith, b, same))
      | inr more ↦ (let a = at.2 i more l in omega (arith, a, same))
    ]))
