use Rattle.std.proofs.Common.{ℕ, ◌≡◌, ◌+◌, ◌-◌, ◌*◌, ◌/◌, ◌%◌, ◌<◌, ◌≤◌, ◌∙◌, inl, inr, ⊎_elim, length, arith, length-take}
use Rattle.std.proofs.lemmas.List.{get_or-take}
use Rattle.xq_memory_disk.proofs.Places.{joined_set, kept_by_set, set_full}
use Rattle.xq_memory_disk.proofs.blocks.write_piece.Goals as goal

pub returns-clause-full : goal.returns-clause-full
returns-clause-full c =
    let there : c.args.at / 65536 < length c.args.blocks.now = omega arith in
    set_full c.args.blocks.now (c.args.at / 65536) c.write_part.new.block c.requires.full
    (c.write_part.ensures.len ∙ c.requires.full.each (c.args.at / 65536) c.index-blocks-at.result there)

pub returns-clause-written : goal.returns-clause-written
returns-clause-written c = λ k l.
    let q : ℕ = c.args.at / 65536 in
    let r : ℕ = c.args.at % 65536 + k in
    let split : c.args.at + k ≡ 65536 * q + r = omega arith in
    let near : r < 65536 = omega arith in
    let there : q < length c.args.blocks.now = omega arith in
    let size : length c.write_part.new.block.items ≡ 65536 =
    c.write_part.ensures.len ∙ c.requires.full.each q c.index-blocks-at.result there in
    joined_set c.args.blocks.now q r (c.args.at + k) c.write_part.new.block c.requires.full size there near split
    ∙ c.write_part.ensures.written k (omega (arith, length-take c.min-n.result c.args.bytes.now))
    ∙ get_or-take c.min-n.result c.args.bytes.now k 0 l

pub returns-clause-others : goal.returns-clause-others
returns-clause-others c = λ i o.
    let q : ℕ = c.args.at / 65536 in
    let there : q < length c.args.blocks.now = omega arith in
    let size : length c.write_part.new.block.items ≡ 65536 =
    c.write_part.ensures.len ∙ c.requires.full.each q c.index-blocks-at.result there in
    kept_by_set c.args.blocks.now q i c.index-blocks-at.result c.write_part.new.block c.requires.full size there
    (λ ge lt. c.write_part.ensures.others (i - 65536 * q) (⊎_elim
    (λ (less : i < c.args.at). inl (omega arith))
    (λ (more : c.args.at + c.min-n.result ≤ i). inr (omega (arith, length-take c.min-n.result c.args.bytes.now)))
    o))
