use Rattle.std.proofs.Common.{arith}
use Rattle.xq_memory_disk.proofs.Places.{read_more}
use Rattle.xq_memory_disk.proofs.blocks.read_blocks.Goals as goal

pub loop-done-preserved : goal.loop-done-preserved
loop-done-preserved c = record {
  within = omega arith;
  read = read_more _ _ _ _ c.args.at c.loop-done.done c.read_piece-done.result c.loop-done.invariant.within (omega (arith, c.read_piece-done.ensures.bound, c.read_piece-done.ensures.len)) c.loop-done.invariant.read c.read_piece-done.ensures.read;
}
