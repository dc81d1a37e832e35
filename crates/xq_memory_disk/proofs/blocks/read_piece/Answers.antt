use Rattle.std.proofs.Common.{ℕ, ◌≡◌, ◌+◌, ◌*◌, ◌/◌, ◌%◌, ◌<◌, ◌∙◌, List, length, drop, sym, ap, arith, length-take}
use Rattle.std.specs.Prelude.{slice_index, Vec}
use Rattle.std.specs.declared.alloc.Global.{Global}
use Rattle.std.proofs.lemmas.List.{get_or_append_left}
use Rattle.xq_memory_disk.proofs.Places.{joined_at}
use Rattle.xq_memory_disk.proofs.blocks.read_piece.Goals as goal

pub returns-clause-read : goal.returns-clause-read
returns-clause-read c = λ k l.
    let q : ℕ = c.args.at / 65536 in
    let r : ℕ = c.args.at % 65536 + k in
    let b : Vec ℕ Global = c.index-blocks-at.result in
    let split : c.args.at + k ≡ 65536 * q + r = omega arith in
    let near : r < 65536 = omega arith in
    let there : q < length c.args.blocks.now = omega arith in
    let size : k < length c.copy_part.new.buf = omega (arith, c.copy_part.ensures.len, length-take c.min-n.result c.args.buf.now) in
    get_or_append_left c.copy_part.new.buf (drop c.min-n.result c.args.buf.now) 0 k size
    ∙ c.copy_part.ensures.copied k size
    ∙ ap (λ (it : List ℕ). slice_index it r) c.deref.ensures.value
    ∙ ap (λ (it : Vec ℕ Global). slice_index it.items r) c.index-blocks-at.is
    ∙ sym (joined_at c.args.blocks.now q r (c.args.at + k) b c.requires.full there near split)
