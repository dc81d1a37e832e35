-- How many rows of its trees a source has given, and how many it has looked at.
use Rattle.std.specs.Prelude.{ℕ, ◌≡◌, ◌+◌, ◌-◌, ◌^◌, ◌≤◌, min}

-- what a meter shows: the rows that were given by ranges, those that were given singly, and those
-- that a search looked at
pub record Readings : Type 0 where
  pub rows : ℕ
  pub singles : ℕ
  pub looks : ℕ

-- what a meter shows before any row was given
abbrev pub no_readings : Readings
no_readings = record { rows = 0; singles = 0; looks = 0 }

-- the greatest count
abbrev pub greatest : ℕ
greatest = 2 ^ 64 - 1

-- a count and so many more: it stands still at the greatest
abbrev pub counted : ℕ → ℕ → ℕ
counted n more = min (n + more) greatest

-- so many more rows were given by ranges
abbrev pub with_rows : Readings → ℕ → Readings
with_rows readings n =
    record { rows = counted readings.rows n; singles = readings.singles; looks = readings.looks }

-- so many more rows were given singly
abbrev pub with_singles : Readings → ℕ → Readings
with_singles readings n =
    record { rows = readings.rows; singles = counted readings.singles n; looks = readings.looks }

-- a search looked at so many more rows
abbrev pub with_looks : Readings → ℕ → Readings
with_looks readings n =
    record { rows = readings.rows; singles = readings.singles; looks = counted readings.looks n }

-- the counts of a meter
pub record AreReadings (readings : Readings) : Type 0 where
  pub rows_fit : readings.rows ≤ greatest
  pub singles_fit : readings.singles ≤ greatest
  pub looks_fit : readings.looks ≤ greatest

-- no row was given meanwhile
pub record GivesNone (before after : Readings) : Type 0 where
  pub rows : after.rows ≡ before.rows
  pub singles : after.singles ≡ before.singles

-- of so many rows each was given by a range or looked at once at most
abbrev pub SeesAtMost : Readings → Readings → ℕ → Type 0
SeesAtMost before after most = after.rows + after.looks ≤ before.rows + before.looks + most
