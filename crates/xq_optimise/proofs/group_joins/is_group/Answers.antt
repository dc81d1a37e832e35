use Rattle.std.proofs.Common.{◌≡◌, ◌∷◌, [], ◌∙◌, ap, arith}
use Rattle.xq_optimise.proofs.JoinLaws.{only_one}
use Rattle.xq_optimise.proofs.group_joins.is_group.Goals as goal

pub returns-then-is_slot : goal.returns-then-is_slot
returns-then-is_slot c = λ told.
    let item = c.clause-item.result in
    let one : c.args.list.now ≡ item ∷ [] = only_one c.args.list.now item (omega arith) (omega arith) c.clause-item.is in
    (c.in-Join.range, c.in-Join.join, one ∙ ap (λ d. d ∷ []) c.in-Join.is, c.in-None.is, c.reads_outside.ensures told, c.is_slot.ensures c.if-is_slot.true)
