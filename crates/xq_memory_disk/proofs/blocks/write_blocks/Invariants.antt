use Rattle.std.proofs.Common.{◌≡◌, ℕ, ◌+◌, ◌-◌, ◌<◌, ◌≤◌, ◌⊎◌, length}
use Rattle.std.specs.Prelude.{slice_index}
use Rattle.xq_memory_disk.specs.private.Blocks.{joined, AreFull}
use Rattle.xq_memory_disk.proofs.blocks.write_blocks.Given as goal

abbrev pub invariant-loop-done : goal.invariant-loop-done
invariant-loop-done l = record {
  within : l.done ≤ length l.bytes;
  full : AreFull l.blocks;
  len : length l.blocks ≡ length l.initial.blocks;
  written : (k : ℕ) → k < l.done → slice_index (joined l.blocks) (l.at + k) ≡ slice_index l.bytes k;
  others : (i : ℕ) → (i < l.at) ⊎ (l.at + l.done ≤ i) → slice_index (joined l.blocks) i ≡ slice_index (joined l.initial.blocks) i;
}

abbrev pub decreases-loop-done : goal.decreases-loop-done
decreases-loop-done l = length l.bytes - l.done
