-- What floor, ceiling and round give, said by the whole numbers about a decimal.
use Rattle.std.specs.Prelude.{ℤ, pos, ◌≡◌, ◌+ℤ◌, ◌≤ℤ◌, ◌<ℤ◌}
use Rattle.xq_atoms.specs.Decimal.{in_millionths}

-- the millionths n are a whole number
abbrev pub IsWhole : ℤ → Type 0
IsWhole n = (k : ℤ) × (n ≡ in_millionths k)

-- F&O 3.1, 4.4.3: the greatest whole number that is not greater
pub record IsFloor (m n : ℤ) : Type 0 where
  pub whole : IsWhole n
  pub not_greater : n ≤ℤ m
  pub greatest : (k : ℤ) → in_millionths k ≤ℤ m → in_millionths k ≤ℤ n

-- F&O 3.1, 4.4.2: the least whole number that is not less
pub record IsCeiling (m n : ℤ) : Type 0 where
  pub whole : IsWhole n
  pub not_less : m ≤ℤ n
  pub least : (k : ℤ) → m ≤ℤ in_millionths k → n ≤ℤ in_millionths k

-- F&O 3.1, 4.4.4: no whole number is nearer, and of two that are as near it is the greater: it lies
-- at most half below, and less than half above
pub record IsNearest (m n : ℤ) : Type 0 where
  pub whole : IsWhole n
  pub not_far_below : m <ℤ (n +ℤ pos 500000)
  pub not_far_above : n ≤ℤ (m +ℤ pos 500000)
