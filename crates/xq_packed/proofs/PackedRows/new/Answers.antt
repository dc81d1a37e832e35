use Rattle.xq_packed.proofs.Standing.{nothing-kept}
use Rattle.xq_packed.proofs.PackedRows.new.Goals as goal

pub invariant_of-result : goal.invariant_of-result
invariant_of-result c =
    nothing-kept _ _ _ c.new-2.ensures.bytes c.new-3.ensures c.new.ensures.items
