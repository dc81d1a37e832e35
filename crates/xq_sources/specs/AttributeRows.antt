-- The attributes of a node, by the rows after its own.
use Rattle.std.specs.Prelude.{ℕ, ◌+◌, ◌<◌, ◌≤◌, ◌≡◌, List, length, true, false}
use Rattle.xq_trees.specs.Rows.{Row, row_at}
use Rattle.xq_trees.specs.RegionTests.{plain_row}

-- a node's attributes come before whatever else stands below it: of the rows below v so many are
-- those of attributes, from the first on, and the one after them, if there is one below v, is not
pub record AreAttributeRows (rs : List Row) (v number : ℕ) : Type 0 where
  pub there : v + number < length rs
  pub below : number ≤ (row_at rs v).size
  pub are : (p : ℕ) → v < p → p ≤ v + number → plain_row rs p ≡ false
  pub after : number < (row_at rs v).size
      → (v + number + 1 < length rs) × (plain_row rs (v + number + 1) ≡ true)
