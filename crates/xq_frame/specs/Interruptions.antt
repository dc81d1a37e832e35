-- Interrupted calls: how they are counted, and how many of them are made again.
use Rattle.std.specs.Prelude.{◌≡◌, ◌≢◌, ℕ, ◌+◌, ◌-◌, ◌^◌, ◌≤◌, min, Result, Ok, Err}
use Rattle.std.specs.IoError.{error_kind}
use Rattle.std.specs.declared.io.Error.{Error}
use Rattle.std.specs.declared.io.ErrorKind.TheVariants.{Interrupted}
use Rattle.xq_frame.specs.declared.messages.Taken.{Taken}
use Rattle.xq_frame.specs.declared.messages.Taken.TheVariants.{Fault}

-- a call that failed so counts where it was interrupted
pub record Counts (e : Error) (old new : ℕ) : Type 0 where
  pub once : new ≤ old + 1
  pub interrupted : error_kind e ≡ Interrupted → new ≡ min (old + 1) (2 ^ 64 - 1)
  pub other : error_kind e ≢ Interrupted → new ≡ old

-- and none that succeeded
abbrev pub CountsIn : {A : Type 0} → Result A Error → ℕ → ℕ → Type 0
CountsIn (Ok value) old new = new ≡ old
CountsIn (Err e) old new = Counts e old new

-- The interrupted calls were made again by as many tries as were spent, but for so many of them.
abbrev pub IsBorne : ℕ → ℕ → ℕ → ℕ → ℕ → Type 0
IsBorne over old_tries tries old_count count = count + tries ≤ old_count + old_tries + over

-- the last call of a frame that found a fault was not made again
abbrev pub given_up : Taken → ℕ
given_up Fault = 1
given_up _ = 0
