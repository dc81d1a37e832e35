-- Frames and replies of the protocol, computed by the definitions.
use Rattle.std.proofs.Common.{◌≡◌, ℕ, List, [], ◌∷◌, codes, refl}
use Rattle.xq_frame.specs.Frame.{frame_bytes, announced_length}
use Rattle.xq_frame.specs.Request.{message_meaning, message_tag, list, put, bad}
use Rattle.xq_frame.specs.Reply.{reply_bytes}

-- the frame of a request for all addresses, with tag 1
abbrev list_message : List ℕ
list_message = 0 ∷ 0 ∷ 0 ∷ 1 ∷ codes "L"

list_frame : frame_bytes list_message ≡ 0 ∷ 0 ∷ 0 ∷ 5 ∷ 0 ∷ 0 ∷ 0 ∷ 1 ∷ 76 ∷ []
list_frame = refl

list_asked : message_meaning list_message ≡ list
list_asked = refl

list_tag : message_tag list_message ≡ 1
list_tag = refl

-- a put under `b`
put_asked : message_meaning (0 ∷ 0 ∷ 0 ∷ 2 ∷ 83 ∷ 1 ∷ codes "bdocument {}") ≡ put (codes "b") (codes "document {}")
put_asked = refl

-- a put that is shorter than its address
short_put : message_meaning (0 ∷ 0 ∷ 0 ∷ 2 ∷ 83 ∷ 2 ∷ codes "b") ≡ bad
short_put = refl

-- a message with no room for a tag
short_tag : message_tag (170 ∷ 187 ∷ []) ≡ 0
short_tag = refl

short_asked : message_meaning (170 ∷ 187 ∷ []) ≡ bad
short_asked = refl

-- a length of one more than the limit
too_long : announced_length (0 ∷ 16 ∷ 1 ∷ 1 ∷ []) ≡ 1048833
too_long = refl

-- the reply `()` with tag 1
empty_list : reply_bytes 1 0 (codes "()") ≡ 0 ∷ 0 ∷ 0 ∷ 7 ∷ 0 ∷ 0 ∷ 0 ∷ 1 ∷ 0 ∷ 40 ∷ 41 ∷ []
empty_list = refl
