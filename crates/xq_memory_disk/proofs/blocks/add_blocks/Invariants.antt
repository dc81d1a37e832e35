use Rattle.std.proofs.Common.{◌≡◌, ℕ, ◌≤◌, length}
use Rattle.std.specs.Prelude.{slice_index}
use Rattle.xq_memory_disk.specs.private.Blocks.{joined, AreFull}
use Rattle.xq_memory_disk.proofs.blocks.add_blocks.Given as goal

abbrev pub invariant-loop : goal.invariant-loop
invariant-loop l = record {
  full : AreFull l.blocks.items;
  counted : l.counter ≡ length l.blocks.items;
  more : length l.initial.blocks.items ≤ length l.blocks.items;
  same : (i : ℕ) → slice_index (joined l.blocks.items) i ≡ slice_index (joined l.initial.blocks.items) i;
}
