use Rattle.std.proofs.Common.{◌<◌, ◌+◌, ◌≤◌, ◌∙◌, arith, inl, inr, ⊎_elim}
use Rattle.std.proofs.lemmas.List.{take_rest}
use Rattle.xq_memory_disk.proofs.Places.{written_more}
use Rattle.xq_memory_disk.proofs.blocks.write_blocks.Goals as goal

pub loop-done-preserved : goal.loop-done-preserved
loop-done-preserved c =
    let was = c.loop-done.invariant in
    let piece = c.write_piece-done.ensures in
    record {
      within = omega arith;
      full = piece.full;
      len = omega arith;
      written = written_more _ _ _ _ c.args.at c.loop-done.done c.write_piece-done.result (take_rest c.args.bytes.now c.loop-done.done) was.written piece.written piece.others;
      others = λ i o. ⊎_elim
          (λ (lt : i < c.args.at). piece.others i (inl (omega arith)) ∙ was.others i (inl lt))
          (λ (ge : c.args.at + (c.loop-done.done + c.write_piece-done.result) ≤ i). piece.others i (inr (omega arith)) ∙ was.others i (inr (omega arith)))
          o;
    }
