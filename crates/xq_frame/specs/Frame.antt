-- A stream of bytes is whole frames and a rest. Numbers stand in four bytes, the highest first.
use Rattle.std.specs.Prelude.{◌≡◌, ℕ, ◌+◌, ◌<◌, ◌≤◌, List, [], ◌++◌, length, take, All, ◌⊎◌}
use Rattle.std.specs.Int.{to_be_bytes, from_be_bytes, w32}
use Rattle.std.specs.List.{flat_map, AllByRecursion}

-- the greatest length of a message
abbrev pub longest_message : ℕ
longest_message = 1048832

-- a message is what follows a frame's length
abbrev pub IsMessage : List ℕ → Type 0
IsMessage message = length message ≤ longest_message

-- a frame is the length of its message, and then the message
abbrev pub frame_bytes : List ℕ → List ℕ
frame_bytes message = to_be_bytes w32 (length message) ++ message

-- the length that the first four bytes tell
abbrev pub announced_length : List ℕ → ℕ
announced_length bytes = from_be_bytes w32 (take 4 bytes)

-- a length over the limit, and anything after it
abbrev pub IsTooLong : List ℕ → Type 0
IsTooLong bytes = (4 ≤ length bytes) × (longest_message < announced_length bytes)

-- 1 to 3 bytes, or fewer than the length tells
abbrev pub IsCut : List ℕ → Type 0
IsCut bytes = (0 < length bytes)
    × ((length bytes < 4)
    ⊎ ((announced_length bytes ≤ longest_message) × (length bytes < 4 + announced_length bytes)))

-- what stands after the last whole frame: nothing, a length over the limit, or a cut frame
pub data Ending : Type 0 where
  finished : Ending
  too_long : Ending
  cut : Ending

-- the rest of a stream that ends so
abbrev pub EndsAs : Ending → List ℕ → Type 0
EndsAs finished rest = rest ≡ []
EndsAs too_long rest = IsTooLong rest
EndsAs cut rest = IsCut rest

-- the bytes are the frames of these messages and a rest, which ends the stream so
pub record Splits (bytes : List ℕ) (messages : List (List ℕ)) (ending : Ending)
    (rest : List ℕ) : Type 0 where
  pub whole : bytes ≡ flat_map frame_bytes messages ++ rest
  pub each : AllByRecursion IsMessage messages
  pub ends : EndsAs ending rest

-- each list of bytes is split so, and in one way
abbrev pub SplitsInOneWay : Type 0
SplitsInOneWay = (bytes : List ℕ) → All (λ byte. byte < 256) bytes
    → ((messages : List (List ℕ)) × (ending : Ending) × (rest : List ℕ)
    × Splits bytes messages ending rest)
    × ((xs ys : List (List ℕ)) (a b : Ending) (r s : List ℕ) → Splits bytes xs a r
    → Splits bytes ys b s → (xs ≡ ys) × (a ≡ b) × (r ≡ s))
