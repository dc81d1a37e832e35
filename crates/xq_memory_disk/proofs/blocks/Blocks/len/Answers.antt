use Rattle.std.proofs.Common.{◌∙◌, length, sym, ap}
use Rattle.xq_memory_disk.proofs.Places.{seen_length}
use Rattle.xq_memory_disk.proofs.blocks.Blocks.len.Goals as goal

pub returns : goal.returns
returns c = sym (seen_length c.self.inside.blocks.items c.self.inside.len c.self.invariant) ∙ ap length c.self.view_is
