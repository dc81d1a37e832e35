use Rattle.std.proofs.Common.{◌≡◌, ◌≤◌, ◌+◌, ◌∙◌, arith, ap, sym, length, take}
use Rattle.std.specs.Vec.{with_items}
use Rattle.std.proofs.lemmas.List.{with_items_is}
use Rattle.xq_memory_disk.specs.private.Blocks.{joined, HasRoom}
use Rattle.xq_memory_disk.proofs.Places.{written_room, seen_length, seen_at}
use Rattle.xq_memory_disk.proofs.blocks.Blocks.overwrite.Goals as goal

pub returns-clause-len : goal.returns-clause-len
returns-clause-len c =
    let others = rw c.deref_mut.ensures.value at c.write_blocks.ensures.others in
    let size = ap length c.deref_mut.ensures.value in
    let within : c.args.at + length c.args.bytes.now ≤ c.self.inside.len =
    omega (arith, seen_length c.self.inside.blocks.items c.self.inside.len c.self.invariant, ap length c.self.view_is) in
    let is : (with_items c.self.inside.blocks c.write_blocks.new.blocks).items ≡ c.write_blocks.new.blocks = with_items_is c.self.inside.blocks c.write_blocks.new.blocks (omega arith) in
    let room : HasRoom c.write_blocks.new.blocks c.self.inside.len =
    written_room c.self.inside.blocks.items c.write_blocks.new.blocks c.self.inside.len c.args.at (length c.args.bytes.now)
    c.self.invariant within c.write_blocks.ensures.full (omega arith) others in
    ap (λ it. length (take c.self.inside.len (joined it))) is
    ∙ seen_length c.write_blocks.new.blocks c.self.inside.len room
    ∙ sym (seen_length c.self.inside.blocks.items c.self.inside.len c.self.invariant)
    ∙ ap length c.self.view_is

pub returns-clause-written : goal.returns-clause-written
returns-clause-written c =
    let others = rw c.deref_mut.ensures.value at c.write_blocks.ensures.others in
    let size = ap length c.deref_mut.ensures.value in
    let within : c.args.at + length c.args.bytes.now ≤ c.self.inside.len =
    omega (arith, seen_length c.self.inside.blocks.items c.self.inside.len c.self.invariant, ap length c.self.view_is) in
    let is : (with_items c.self.inside.blocks c.write_blocks.new.blocks).items ≡ c.write_blocks.new.blocks = with_items_is c.self.inside.blocks c.write_blocks.new.blocks (omega arith) in
    let room : HasRoom c.write_blocks.new.blocks c.self.inside.len =
    written_room c.self.inside.blocks.items c.write_blocks.new.blocks c.self.inside.len c.args.at (length c.args.bytes.now)
    c.self.invariant within c.write_blocks.ensures.full (omega arith) others in
    rw is (record {
      within = omega (arith, seen_length c.write_blocks.new.blocks c.self.inside.len room);
      each = λ i l. seen_at c.write_blocks.new.blocks c.self.inside.len room (c.args.at + i) ∙ c.write_blocks.ensures.written i l;
    })
