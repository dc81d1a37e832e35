-- A reply: the length of what follows, the tag, a status byte, a text.
use Rattle.std.specs.Prelude.{ℕ, ◌+◌, List, [], ◌∷◌, ◌++◌, length}
use Rattle.std.specs.Int.{to_be_bytes, w32}

-- the greatest length of a text, in bytes
abbrev pub longest_text : ℕ
longest_text = 16777216

-- the nine bytes before a text of this length
abbrev pub header : ℕ → ℕ → ℕ → List ℕ
header tag status size = to_be_bytes w32 (size + 5) ++ to_be_bytes w32 tag ++ status ∷ []

-- the whole reply
abbrev pub reply_bytes : ℕ → ℕ → List ℕ → List ℕ
reply_bytes tag status text = header tag status (length text) ++ text
