use Rattle.xq_memory_disk.proofs.Places.{no_room}
use Rattle.xq_memory_disk.proofs.blocks.Blocks.new.Goals as goal

pub invariant_of-result : goal.invariant_of-result
invariant_of-result c = rw c.new.ensures.items no_room
