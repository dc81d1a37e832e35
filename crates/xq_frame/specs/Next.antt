-- What some bytes begin with, as the code answers it.
use Rattle.std.specs.Prelude.{◌≡◌, ℕ, ◌+◌, List, [], ◌++◌, length}
use Rattle.xq_frame.specs.Frame.{frame_bytes, IsMessage, IsTooLong, IsCut}
use Rattle.xq_frame.specs.Request.{request_meaning, message_meaning, message_tag}
use Rattle.xq_frame.specs.declared.frames.Frame.{Frame}
use Rattle.xq_frame.specs.declared.frames.Next.{Next}
use Rattle.xq_frame.specs.declared.frames.Next.TheVariants.{Frame as Whole, End, Cut, TooLong}

-- the frame of this message
pub record IsFrameOf (frame : Frame) (message : List ℕ) : Type 0 where
  pub used : frame.used ≡ 4 + length message
  pub tag : frame.tag ≡ message_tag message
  pub request : request_meaning frame.request ≡ message_meaning message

-- the bytes are this message's frame and what follows
pub record Starts (bytes : List ℕ) (found : Frame) (message : List ℕ) (rest : List ℕ) : Type 0 where
  pub whole : bytes ≡ frame_bytes message ++ rest
  pub limit : IsMessage message
  pub same : IsFrameOf found message

-- the bytes begin so: a whole frame, nothing, a cut frame, or a length over the limit
abbrev pub Begins : List ℕ → Next → Type 0
Begins bytes (Whole frame) = (message : List ℕ) × (rest : List ℕ) × Starts bytes frame message rest
Begins bytes End = bytes ≡ []
Begins bytes Cut = IsCut bytes
Begins bytes TooLong = IsTooLong bytes
