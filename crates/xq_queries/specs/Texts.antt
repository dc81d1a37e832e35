-- Line ends (XQuery 3.1, appendix A.2.3): a carriage return with a line feed after it, and one
-- alone, are read as a line feed.
use Rattle.std.specs.Prelude.{ℕ, Bool, true, false, List, [], ◌∷◌, if◌then◌else◌, ◌==◌, ◌&&◌}
use Rattle.std.specs.Str.{chars}

-- the test says whether a carriage return stands before
abbrev pub line_ends_after : Bool → List ℕ → List ℕ
line_ends_after returned [] = []
line_ends_after returned (byte ∷ text) =
    if byte == 13 then 10 ∷ line_ends_after true text
    else (if returned && byte == 10 then line_ends_after false text
    else byte ∷ line_ends_after false text)

-- the text with each of its line ends as one line feed
abbrev pub with_line_feeds : List ℕ → List ℕ
with_line_feeds text = line_ends_after false text

-- the characters of a query whose bytes are UTF-8
abbrev pub characters : List ℕ → List ℕ
characters text = chars (with_line_feeds text)
