-- What is given to a writer.
use Rattle.std.specs.Prelude.{◌≡◌, ℕ, List, ◌++◌, Option}
use Rattle.std.specs.Io.KnownBytes.{Appends}

-- the bytes begin with what was given
abbrev pub GivesFront : Option (List ℕ) → Option (List ℕ) → List ℕ → Type 0
GivesFront old new bytes = (sent : List ℕ) × (unsent : List ℕ) × Appends old new sent
    × (bytes ≡ sent ++ unsent)
