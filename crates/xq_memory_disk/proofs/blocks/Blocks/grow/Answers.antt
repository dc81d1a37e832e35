use Rattle.std.proofs.Common.{◌≤◌, ◌∙◌, arith, ap, sym, length}
use Rattle.std.proofs.lemmas.Result.{err_from_is_err_and}
use Rattle.xq_memory_disk.specs.private.Blocks.{HasRoom}
use Rattle.xq_memory_disk.proofs.Places.{more_room, same_seen, seen_length, same_bytes}
use Rattle.xq_memory_disk.proofs.blocks.Blocks.grow.Goals as goal

pub returns-in_err-add_blocks-clause-kept : goal.returns-in_err-add_blocks-clause-kept
returns-in_err-add_blocks-clause-kept c =
    let p = err_from_is_err_and c.from_residual.result c.from_residual.ensures.1 in
    let done = c.add_blocks.ensures in
    let room : HasRoom c.add_blocks.new.blocks.items c.self.inside.len =
    more_room c.self.inside.blocks.items c.add_blocks.new.blocks.items c.self.inside.len c.self.inside.len c.self.invariant
    (omega arith) done.full (omega (arith, c.self.invariant.room)) done.same in
    rw p.1 (same_bytes _ _
    (seen_length c.add_blocks.new.blocks.items c.self.inside.len room ∙ sym (seen_length c.self.inside.blocks.items c.self.inside.len c.self.invariant))
    (same_seen c.self.inside.blocks.items c.add_blocks.new.blocks.items c.self.inside.len c.self.inside.len c.self.invariant room done.same)
    ∙ c.self.view_is)

pub returns-clause-len : goal.returns-clause-len
returns-clause-len c =
    let done = c.add_blocks.ensures in
    let less : c.self.inside.len ≤ c.args.len =
    omega (arith, seen_length c.self.inside.blocks.items c.self.inside.len c.self.invariant, ap length c.self.view_is) in
    let enough : c.div_ceil.result ≤ length c.add_blocks.new.blocks.items = c.in_ok-add_blocks.ensures.enough in
    let room : HasRoom c.add_blocks.new.blocks.items c.args.len =
    more_room c.self.inside.blocks.items c.add_blocks.new.blocks.items c.self.inside.len c.args.len c.self.invariant
    less done.full (omega arith) done.same in
    seen_length c.add_blocks.new.blocks.items c.args.len room
