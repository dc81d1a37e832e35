-- What a lender makes ready and lends, and what it looks at.
use Rattle.std.specs.Prelude.{ℕ, ◌≡◌, ◌<◌, List, take, length, Option, Some, None, Result, Ok, Err}
use Rattle.xq_trees.specs.Rows.{Row}
use Rattle.xq_sources.specs.Meters.{Readings, with_rows, with_looks}

-- a run of rows: the first of them, and at least one where there is one
pub record IsRun (rows run : List (ℕ × Row)) : Type 0 where
  pub first : run ≡ take (length run) rows
  pub some : 0 < length rows → 0 < length run

-- each row of the run counts; a call that is refused counts nothing
abbrev pub after_fetch : {E : Type 0} → Readings → List (ℕ × Row) → Result (Unit {0}) E → Readings
after_fetch readings run (Ok done) = with_rows readings (length run)
after_fetch readings run (Err want) = readings

-- a search that found something out, or was refused, looked at each of so many rows; another at none
abbrev pub after_search : {A E : Type 0} → Readings → ℕ → Result (Option A) E → Readings
after_search readings rows (Ok (Some found)) = with_looks readings rows
after_search readings rows (Ok None) = readings
after_search readings rows (Err want) = with_looks readings rows
