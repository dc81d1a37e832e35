-- A node and its parent, by their rows.
use Rattle.std.proofs.Common.{suc}
use Rattle.std.specs.Prelude.{ℕ, ◌<◌, ◌≡◌, List, length, slice_index_or}
use Rattle.xq_trees.specs.Rows.{Row, row_at}
use Rattle.xq_trees.specs.Regions.{IsInside}

-- the row u is that of the parent of v: v is there, in the rows below u, and one level deeper
pub record IsParentRow (rs : List Row) (u v : ℕ) : Type 0 where
  pub there : v < length rs
  pub inside : IsInside rs u v
  pub level : (row_at rs v).level ≡ suc (row_at rs u).level

-- of each row, one after another, the place of its parent, or one past all places, which says nothing
pub record AreParents (rs : List Row) (parents : List ℕ) : Type 0 where
  pub told : (v : ℕ) → v < length parents → slice_index_or parents v 0 < 4294967295 → IsParentRow rs (slice_index_or parents v 0) v
