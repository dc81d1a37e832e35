use Rattle.std.proofs.Common.{◌≤◌, arith, ap, length}
use Rattle.xq_memory_disk.proofs.Places.{cut_seen, seen_length}
use Rattle.xq_memory_disk.proofs.blocks.Blocks.cut.Goals as goal

pub returns : goal.returns
returns c =
    let done = c.cut_blocks.ensures in
    let less : c.args.len ≤ c.self.inside.len =
    omega (arith, seen_length c.self.inside.blocks.items c.self.inside.len c.self.invariant, ap length c.self.view_is) in
    rw (← c.self.view_is) (cut_seen c.self.inside.blocks.items c.cut_blocks.new.blocks.items c.self.inside.len c.args.len c.self.invariant less
    (record { full = done.full; room = done.within; clear = done.clear }) done.below)
