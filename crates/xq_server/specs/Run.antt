-- A run over a list of bytes: one reply to each of its frames, in order, and the documents from
-- step to step.
use Rattle.std.specs.Prelude.{◌≡◌, ℕ, ◌≤◌, List, [], ◌∷◌, ◌++◌, length, ◌⊎◌, ⊤}
use Rattle.std.specs.List.{flat_map, AllByRecursion}
use Rattle.xq_atoms.specs.Code.{code_text}
use Rattle.xq_atoms.specs.declared.refusals.Code.TheVariants.{ProfLong}
use Rattle.xq_tables.specs.Documents.{Map}
use Rattle.xq_frame.specs.Frame.{frame_bytes, IsMessage, IsTooLong, IsCut}
use Rattle.xq_frame.specs.Reply.{reply_bytes, longest_text}
use Rattle.xq_frame.specs.Request.{RequestMeaning, message_meaning, message_tag}
use Rattle.xq_server.specs.Step.{Step}
use Rattle.xq_server.specs.ReadBack.{ReadsBackFrom}
use Rattle.xq_server.specs.declared.ends.End.{End}
use Rattle.xq_server.specs.declared.ends.End.TheVariants.{Finished, Cut, TooLong, Bound, ReadFault, WriteFault, NoRoom}

-- what a reply says
pub record Reply : Type 0 where
  pub tag : ℕ
  pub status : ℕ
  pub text : List ℕ

-- the bytes of a reply
abbrev pub bytes_of : Reply → List ℕ
bytes_of reply = reply_bytes reply.tag reply.status reply.text

-- the bytes of several replies, one after another
abbrev pub written : List Reply → List ℕ
written replies = flat_map bytes_of replies

-- a reply has its frame's tag, one of three statuses, and a text within the limit
abbrev pub IsReplyTo : List ℕ → Reply → Type 0
IsReplyTo message reply = (reply.tag ≡ message_tag message) × (reply.status ≤ 2)
    × (length reply.text ≤ longest_text)

-- one reply to each frame, in order
abbrev pub AreReplies : List (List ℕ) → List Reply → Type 0
AreReplies [] [] = ⊤
AreReplies (message ∷ messages) (reply ∷ replies) = IsReplyTo message reply
    × AreReplies messages replies
AreReplies [] (reply ∷ replies) = ⊥
AreReplies (message ∷ messages) [] = ⊥

-- each reply is that of a step over the documents that the steps before it left, and reads back
abbrev pub Run : Map → List (List ℕ) → List Reply → Map → Type 0
Run m [] [] new = new ≡ m
Run m (message ∷ messages) (reply ∷ replies) new =
    (mid : Map) × (Step m (message_meaning message) mid reply.status reply.text
    × ReadsBackFrom m (message_meaning message) reply.status reply.text
    × Run mid messages replies new)
Run m [] (reply ∷ replies) new = ⊥
Run m (message ∷ messages) [] new = ⊥

-- A frame, or a length over the limit, with what follows.
abbrev pub IsAtHand : List ℕ → Type 0
IsAtHand rest = ((message : List ℕ) × (more : List ℕ) × IsMessage message
    × (rest ≡ frame_bytes message ++ more)) ⊎ IsTooLong rest

-- the reply to a length over the limit: tag 0, status 1
abbrev pub long_reply : List ℕ
long_reply = reply_bytes 0 1 (code_text ProfLong)

-- why the run ends, by what is left of the bytes, and what it writes after the replies
abbrev pub EndsRun : End → List ℕ → List ℕ → Type 0
EndsRun Finished rest last = (rest ≡ []) × (last ≡ [])
EndsRun Cut rest last = IsCut rest × (last ≡ [])
EndsRun TooLong rest last = IsTooLong rest × (last ≡ long_reply)
EndsRun NoRoom rest last = IsAtHand rest × (last ≡ [])
EndsRun Bound rest last = ⊥
EndsRun ReadFault rest last = ⊥
EndsRun WriteFault rest last = ⊥

-- Below, D is a store: `clean` says that its disk has returned what was written, as it then had
-- before each call, and `stands` which documents it stands for. What is said of the documents
-- stands where the store is clean at the end.
module _ {D : Type 0} (clean : D → Type 0) (stands : D → Map → Type 0) where
  -- One frame answered: its reply is added to the output. Over the documents that the store stood
  -- for the reply is that of a step, which reads back, and the store stands for the documents that
  -- the step leaves.
  pub record Answered (old new : D) (tag : ℕ) (asked : RequestMeaning) (before after : List ℕ)
      (reply : Reply) : Type 0 where
    pub out : after ≡ before ++ bytes_of reply
    pub tagged : reply.tag ≡ tag
    pub status : reply.status ≤ 2
    pub short : length reply.text ≤ longest_text
    pub was_clean : clean new → clean old
    pub step : clean new → (m : Map) → stands old m → (later : Map)
        × Step m asked later reply.status reply.text × stands new later
    pub read_back : clean new → (m : Map) → stands old m
        → ReadsBackFrom m asked reply.status reply.text

  -- these frames were answered by these replies
  pub record Ran (old new : D) (messages : List (List ℕ)) (replies : List Reply) : Type 0 where
    pub each : AllByRecursion IsMessage messages
    pub replied : AreReplies messages replies
    pub was_clean : clean new → clean old
    pub run : clean new → (m : Map) → stands old m → (later : Map) × Run m messages replies later
        × stands new later

  -- the bytes are these frames and a rest, and what was added to the output is their replies and
  -- some last bytes
  pub record RanOver (old new : D) (bytes before after : List ℕ) (messages : List (List ℕ))
      (replies : List Reply) (rest last : List ℕ) : Type 0 where
    pub whole : bytes ≡ flat_map frame_bytes messages ++ rest
    pub out : after ≡ before ++ written replies ++ last
    pub ran : Ran old new messages replies

  -- The headline: the bytes are whole frames and a rest; each frame has its reply, and the rest
  -- says why no more have.
  abbrev pub RunsTo : D → D → List ℕ → List ℕ → List ℕ → End → Type 0
  RunsTo old new bytes before after end =
      (messages : List (List ℕ)) × (replies : List Reply) × (rest : List ℕ) × (last : List ℕ)
      × (RanOver old new bytes before after messages replies rest last × EndsRun end rest last)
