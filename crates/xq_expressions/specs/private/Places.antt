-- A place as a number: one more than it, and 0 for none.
use Rattle.std.specs.Prelude.{ℕ, ◌-◌, Option, Some, None, nat_lt, if◌then◌else◌}

abbrev pub place_before : ℕ → Option ℕ
place_before next = if nat_lt 0 next then Some (next - 1) else None
