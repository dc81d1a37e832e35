use Rattle.std.proofs.Common.{◌≡◌, map, take}
use Rattle.xq_tuples.proofs.order.numbers_of.Given as goal

abbrev pub invariant-loop-row : goal.invariant-loop-row
invariant-loop-row l = l.numbers.items ≡ map (λ row. row.number) (take l.row-index l.rows)
