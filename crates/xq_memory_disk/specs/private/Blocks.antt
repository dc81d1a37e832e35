-- Bytes that lie in blocks of one size.
use Rattle.std.specs.Prelude.{◌≡◌, ℕ, ◌*◌, ◌≤◌, List, length, slice_index, Vec}
use Rattle.std.specs.List.{All, flat_map}
use Rattle.std.specs.declared.alloc.Global.{Global}

-- the bytes of the blocks, one block after the other
unfoldable pub joined : List (Vec ℕ Global) → List ℕ
joined blocks = flat_map (λ block. block.items) blocks

-- each block has its 65,536 bytes
pub record AreFull (blocks : List (Vec ℕ Global)) : Type 0 where
  pub each : All (λ block. length block.items ≡ 65536) blocks

-- The first `len` bytes of the blocks are in use, and those behind them are 0.
pub record HasRoom (blocks : List (Vec ℕ Global)) (len : ℕ) : Type 0 where
  pub full : AreFull blocks
  pub room : len ≤ 65536 * length blocks
  pub clear : (i : ℕ) → len ≤ i → slice_index (joined blocks) i ≡ 0
