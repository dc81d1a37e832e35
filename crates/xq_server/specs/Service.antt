-- A service: frames are taken from a reader in whatever pieces it gives them, and each reply is
-- given to a writer before the next frame is taken.
use Rattle.std.specs.Prelude.{◌≡◌, ℕ, ◌+◌, ◌*◌, ◌<◌, ◌≤◌, min, List, [], ◌∷◌, ◌++◌, length, Option, ◌⊎◌}
use Rattle.std.specs.List.{flat_map}
use Rattle.std.specs.Io.KnownBytes.{Consumes, Appends, IsAtEnd}
use Rattle.xq_frame.specs.Frame.{frame_bytes, IsMessage, IsCut}
use Rattle.xq_tables.specs.Documents.{Map}
use Rattle.xq_frame.specs.Taking.{IsPart, IsHead, IsLongHead}
use Rattle.xq_server.specs.Run.{Reply, Ran, bytes_of, written, long_reply}
use Rattle.xq_server.specs.declared.ends.End.{End}
use Rattle.xq_server.specs.declared.ends.End.TheVariants.{Finished, Cut, TooLong, Bound, ReadFault, WriteFault, NoRoom}

-- the frame at hand, as far as it was taken: its length alone, the whole of it, or a length over
-- the limit
abbrev pub IsNotCarriedOut : List ℕ → Type 0
IsNotCarriedOut rest = IsHead rest
    ⊎ ((message : List ℕ) × IsMessage message × (rest ≡ frame_bytes message)) ⊎ IsLongHead rest

-- the bytes begin with what was given
abbrev pub IsFrontOf : List ℕ → List ℕ → Type 0
IsFrontOf sent bytes = (unsent : List ℕ) × (bytes ≡ sent ++ unsent)

-- these replies were given, and a front of these bytes
abbrev pub BreaksOffIn : List Reply → List ℕ → List ℕ → Type 0
BreaksOffIn replies bytes sent = (front : List ℕ) × IsFrontOf front bytes
    × (sent ≡ written replies ++ front)

-- all replies were given but the last, and a front of that: it is the reply to the last frame
-- taken, or to a length over the limit
abbrev pub BreaksOff : List Reply → List ℕ → List ℕ → Type 0
BreaksOff replies rest sent =
    ((rest ≡ []) × ((earlier : List Reply) × (last : Reply) × (replies ≡ earlier ++ last ∷ [])
    × BreaksOffIn earlier (bytes_of last) sent))
    ⊎ (IsLongHead rest × BreaksOffIn replies long_reply sent)

-- Why a service ends, by the greatest number of frames and the number answered, the replies to
-- these, what was taken after them, what was given, and what the reader has left.
abbrev pub EndsService : End → ℕ → ℕ → List Reply → List ℕ → List ℕ → Option (List ℕ) → Type 0
EndsService Finished bound count replies rest sent left = (rest ≡ []) × IsAtEnd left
    × (sent ≡ written replies) × (count < bound)
EndsService Cut bound count replies rest sent left = IsCut rest × IsAtEnd left
    × (sent ≡ written replies) × (count < bound)
EndsService TooLong bound count replies rest sent left = IsLongHead rest
    × (sent ≡ written replies ++ long_reply) × (count < bound)
EndsService Bound bound count replies rest sent left = (rest ≡ []) × (sent ≡ written replies)
    × (count ≡ bound)
EndsService ReadFault bound count replies rest sent left = IsPart rest × (sent ≡ written replies)
    × (count < bound)
EndsService NoRoom bound count replies rest sent left = IsNotCarriedOut rest
    × (sent ≡ written replies) × (count < bound)
EndsService WriteFault bound count replies rest sent left = BreaksOff replies rest sent
    × (count ≤ bound)

-- At most `bound` frames are taken, each with its reply, the one at hand at the end included. Of each
-- at most 999 interrupted calls are made again, and the call after which the service ends for a fault
-- is one more.
abbrev pub BearsFew : ℕ → ℕ → ℕ → ℕ → Type 0
BearsFew bound frames before after = after ≤ before + 999 * min bound (frames + 1) + 1

-- Below, D, `clean` and `stands` are as in Run. `before` and `left` are what the reader will give,
-- at the start and at the end, `held` and `holding` what the writer holds, each where it is known;
-- `interrupted` and `later` are how many of their calls were interrupted.
module _ {D : Type 0} (clean : D → Type 0) (stands : D → Map → Type 0) where
  -- these frames and a rest were taken, this was given, and the frames were answered by these
  -- replies
  pub record Served (old new : D) (before left held holding : Option (List ℕ))
      (messages : List (List ℕ)) (replies : List Reply) (rest sent : List ℕ) : Type 0 where
    pub taken : Consumes before left (flat_map frame_bytes messages ++ rest)
    pub given : Appends held holding sent
    pub ran : Ran clean stands old new messages replies

  -- The headline for a service: each frame taken has its reply, and the rest says why no more are.
  abbrev pub Serves : D → D → Option (List ℕ) → Option (List ℕ) → Option (List ℕ) → Option (List ℕ)
      → ℕ → ℕ → ℕ → End → Type 0
  Serves old new before left held holding bound interrupted later end =
      (messages : List (List ℕ)) × (replies : List Reply) × (rest : List ℕ) × (sent : List ℕ)
      × (Served old new before left held holding messages replies rest sent
      × EndsService end bound (length messages) replies rest sent left
      × BearsFew bound (length messages) interrupted later)
