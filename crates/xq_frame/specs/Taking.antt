-- What is taken from a reader for one frame.
use Rattle.std.specs.Prelude.{◌≡◌, ℕ, ◌<◌, ◌≤◌, List, [], length, Option, ◌⊎◌}
use Rattle.std.specs.Io.KnownBytes.{IsAtEnd}
use Rattle.xq_frame.specs.Frame.{frame_bytes, IsMessage, IsCut, announced_length, longest_message}
use Rattle.xq_frame.specs.declared.messages.Taken.{Taken}
use Rattle.xq_frame.specs.declared.messages.Taken.TheVariants.{Message, End, Cut, TooLong, Fault, NoRoom}

-- nothing, or less than a whole frame
abbrev pub IsPart : List ℕ → Type 0
IsPart bytes = (bytes ≡ []) ⊎ IsCut bytes

-- the length of a message, within the limit, and nothing after it
abbrev pub IsHead : List ℕ → Type 0
IsHead bytes = (length bytes ≡ 4) × (announced_length bytes ≤ longest_message)

-- a length over the limit, and nothing after it
abbrev pub IsLongHead : List ℕ → Type 0
IsLongHead bytes = (length bytes ≡ 4) × (longest_message < announced_length bytes)

-- what was taken for this answer, and what the reader has left
abbrev pub Takes : Taken → List ℕ → Option (List ℕ) → Type 0
Takes (Message message) taken left = IsMessage message.items × (taken ≡ frame_bytes message.items)
Takes End taken left = (taken ≡ []) × IsAtEnd left
Takes Cut taken left = IsCut taken × IsAtEnd left
Takes TooLong taken left = IsLongHead taken
Takes Fault taken left = IsPart taken
Takes NoRoom taken left = IsHead taken
