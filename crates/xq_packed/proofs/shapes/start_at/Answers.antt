use Rattle.std.proofs.Common.{◌≡◌, ◌<◌, ◌-◌, suc, length, sym, ap, ◌∙◌, arith}
use Rattle.xq_packed.specs.private.Shapes.{value_start}
use Rattle.xq_packed.proofs.Standing.{start-after}
use Rattle.xq_packed.proofs.shapes.start_at.Goals as goal

pub returns-else-at-eq0 : goal.returns-else-at-eq0
returns-else-at-eq0 c =
    let one : suc (c.args.at - 1) ≡ c.args.at = omega arith in
    let before : c.args.at - 1 < length c.args.shapes.now = omega arith in
    c.value_end.ensures ∙ sym (start-after 0 c.args.shapes.now (c.args.at - 1) _ before) ∙ ap (λ i. value_start 0 c.args.shapes.now i) one
