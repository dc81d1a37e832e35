use Rattle.std.proofs.Common.{map, string_bytes, ap}
use Rattle.xq_packed.proofs.Parting.{nothing-numbered}
use Rattle.xq_packed.proofs.names.NameTable.new.Goals as goal

pub invariant_of-result : goal.invariant_of-result
invariant_of-result c =
    nothing-numbered _ _ (ap (map string_bytes) c.new.ensures.items) (ap (map string_bytes) c.new-2.ensures.empty)
