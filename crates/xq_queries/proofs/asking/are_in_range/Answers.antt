use Rattle.std.proofs.Common.{arith}
use Rattle.xq_queries.proofs.Ranges.{none_left, one_taken}
use Rattle.xq_queries.proofs.asking.are_in_range.Goals as goal

pub loop-item-init : goal.loop-item-init
loop-item-init c = λ h. h

pub loop-item-preserved : goal.loop-item-preserved
loop-item-preserved c = λ h.
    c.loop-item.invariant (one_taken c.loop-item.item-index c.args.items.now c.item-item.result (omega arith) c.item-item.is c.is_in_range.ensures h)

pub returns : goal.returns
returns c = c.loop-item.invariant (none_left c.loop-item.item-index c.args.items.now (omega arith))
